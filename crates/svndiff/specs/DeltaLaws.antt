-- Laws of text deltas.
use Rattle.std.specs.Prelude.{◌≡◌, ◌<◌, ◌≤◌, ◌+◌, ◌/◌, ◌%◌, ℕ, List, [], ◌∷◌, ◌++◌, length, take, drop, codes, Some}
use Rattle.svndiff.specs.Svndiff.{Source, patch, slid}

-- the held bytes and the unread ones are those of the old text from the offset on
abbrev pub IsAligned : List ℕ → Source → Type 0
IsAligned old s = s.held ++ s.unread ≡ drop s.offset old

-- a view that leaves no gap has the bytes of the old text from its offset on, and so the next one may have them too
abbrev pub ViewsAreOfOldText : Type 0
ViewsAreOfOldText = (old : List ℕ) (s seen : Source) (offset size : ℕ) → IsAligned old s
    → offset ≤ s.offset + length s.held → slid offset size s ≡ Some seen
    → IsAligned old seen × (take size seen.held ≡ take size (drop offset old))

-- a number below 2^21, in three bytes
abbrev pub three_bytes : ℕ → List ℕ
three_bytes n = (128 + n / 16384) ∷ (128 + n / 128 % 128) ∷ n % 128 ∷ []

-- an instruction that copies so many bytes from an offset of the source view
abbrev pub source_copy : (size offset : ℕ) → List ℕ
source_copy size offset = 0 ∷ three_bytes size ++ three_bytes offset

-- one that takes so many bytes of new data
abbrev pub new_bytes : ℕ → List ℕ
new_bytes size = 128 ∷ three_bytes size

-- the delta that puts other bytes between so many first bytes and so many last bytes of an old text
abbrev pub middle_delta : (first gone last : ℕ) → (new : List ℕ) → List ℕ
middle_delta first gone last new =
    codes "SVN" ++ 0 ∷ three_bytes 0
    ++ (three_bytes (first + gone + last) ++ (three_bytes (first + length new + last) ++ (three_bytes 18 ++ (three_bytes (length new)
    ++ (source_copy first 0 ++ (new_bytes (length new) ++ (source_copy last (first + gone) ++ new)))))))

-- so a text that is changed in its middle has a delta, if both have 100 KB at most
abbrev pub MiddlesAreReplaced : Type 0
MiddlesAreReplaced = (front middle new end : List ℕ) → 0 < length front → 0 < length new → 0 < length end
    → length front + length middle + length end ≤ 102400 → length front + length new + length end ≤ 102400
    → patch (middle_delta (length front) (length middle) (length end) new) (front ++ (middle ++ end)) ≡ Some (front ++ (new ++ end))
