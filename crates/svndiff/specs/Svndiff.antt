-- Text deltas (svndiff, version 0), as svnadmin load of Subversion 1.14 applies them (svndiff.c, text_delta.c): each window
-- of a delta states a part of the old text, its source view, and makes the next part of the new text, its target.
use Rattle.std.specs.Prelude.{ℕ, zero, suc, ◌+◌, ◌-◌, ◌*◌, ◌%◌, ◌^◌, Bool, ◌&&◌, ◌||◌, ◌==◌, nat_lt, nat_le, List, [], ◌∷◌, ◌++◌, length, take, drop, slice_index, bytes_eq, codes, Option, Some, None, option_and_then, if◌then◌else◌}

-- the number that goes on at the front of some bytes, after so many bytes that gave this value, and the bytes after it. Each
-- byte adds seven bits; the last is below 128, and is the tenth at most. Bits above the 64th are lost
abbrev pub number_from : (read value : ℕ) → List ℕ → Option (ℕ × List ℕ)
number_from read value [] = None
number_from read value (b ∷ bs) =
    let more = (value * 128 + b % 128) % 2 ^ 64 in
    if nat_lt read 10 then if nat_lt b 128 then Some (more, bs) else number_from (read + 1) more bs else None

-- goes on with what is read at the front of some bytes, and with the bytes after it, if it can be read
abbrev pub go_on : {X Y : Type 0} → Option (X × List ℕ) → (X → List ℕ → Option Y) → Option Y
go_on {X} {Y} read next = option_and_then (λ (it : X × List ℕ). next it.0 it.1) read

-- what an instruction appends to the target: bytes at an offset of the source view or of the target itself, or new data
pub data Instruction : Type 0 where
  FromSource : (size offset : ℕ) → Instruction
  FromTarget : (size offset : ℕ) → Instruction
  New : (size : ℕ) → Instruction

-- the size of an instruction, six bits of its first byte; if they are 0, the number after that byte
abbrev pub size_at : ℕ → List ℕ → Option (ℕ × List ℕ)
size_at first bs = if first % 64 == 0 then number_from 0 0 bs else Some (first % 64, bs)

-- the instruction at the front of some bytes: the two high bits of the first byte say which it is
abbrev pub instruction_at : List ℕ → Option (Instruction × List ℕ)
instruction_at [] = None
instruction_at (first ∷ bs) = go_on (size_at first bs) (λ size rest.
    if nat_lt first 64 then go_on (number_from 0 0 rest) (λ offset others. Some (FromSource size offset, others))
    else if nat_lt first 128 then go_on (number_from 0 0 rest) (λ offset others. Some (FromTarget size offset, others))
    else if nat_lt first 192 then Some (New size, rest) else None)

-- a target so far, and the new data that it has not used
pub record Target : Type 0 where
  pub made : List ℕ
  pub unused : List ℕ

-- so many bytes more, each that at the offset, which rises with them: what is appended may be copied too
abbrev pub copied_on : (size offset : ℕ) → List ℕ → List ℕ
copied_on zero offset made = made
copied_on (suc size) offset made = copied_on size (offset + 1) (made ++ slice_index made offset ∷ [])

-- whether something is appended to the target, and no more than its size allows
abbrev pub has_room : (target_size size : ℕ) → Target → Bool
has_room target_size size t = nat_lt 0 size && nat_le (length t.made + size) target_size

-- whether the instruction can be applied in a target of this size
abbrev pub is_applicable : (view : List ℕ) → (target_size : ℕ) → Instruction → Target → Bool
is_applicable view target_size (FromSource size offset) t = has_room target_size size t && nat_le (offset + size) (length view)
is_applicable view target_size (FromTarget size offset) t = has_room target_size size t && nat_lt offset (length t.made)
is_applicable view target_size (New size) t = has_room target_size size t && nat_le size (length t.unused)

-- the target after it
abbrev pub applied : (view : List ℕ) → Instruction → Target → Target
applied view (FromSource size offset) t = record { made = t.made ++ take size (drop offset view); unused = t.unused }
applied view (FromTarget size offset) t = record { made = copied_on size offset t.made; unused = t.unused }
applied view (New size) t = record { made = t.made ++ take size t.unused; unused = drop size t.unused }

-- the target that instructions make: it has its whole size, and has used all new data. Each instruction has a byte, so there
-- are no more than bytes
abbrev pub target_by : (most : ℕ) → (view : List ℕ) → (target_size : ℕ) → (instructions : List ℕ) → Target → Option (List ℕ)
target_by most view target_size [] t = if length t.made == target_size && length t.unused == 0 then Some t.made else None
target_by zero view target_size (b ∷ bs) t = None
target_by (suc most) view target_size (b ∷ bs) t = go_on (instruction_at (b ∷ bs)) (λ it rest.
    if is_applicable view target_size it t then target_by most view target_size rest (applied view it t) else None)

-- a window: where its source view begins, the sizes of its source view and of its target, its instructions and its new data
pub record Window : Type 0 where
  pub offset : ℕ
  pub source_size : ℕ
  pub target_size : ℕ
  pub instructions : List ℕ
  pub new_data : List ℕ

-- the window with this head at the front of some bytes, and the bytes after it. Its source view and its target have 100 KB at
-- most; so the sizes of instructions and new data, which load limits too, need no limit
abbrev pub window_with : (offset source_size target_size instructions_size new_size : ℕ) → List ℕ → Option (Window × List ℕ)
window_with offset source_size target_size instructions_size new_size bs =
    let others = drop instructions_size bs in
    let w : Window = record {
      offset = offset;
      source_size = source_size;
      target_size = target_size;
      instructions = take instructions_size bs;
      new_data = take new_size others;
    } in
    if nat_lt offset (2 ^ 63) && nat_le source_size 102400 && nat_le target_size 102400
    && nat_le (instructions_size + new_size) (length bs)
    then Some (w, drop new_size others) else None

-- the window at the front of some bytes: the five numbers of its head, and its sections
abbrev pub window_at : List ℕ → Option (Window × List ℕ)
window_at bs = go_on (number_from 0 0 bs) (λ offset b1. go_on (number_from 0 0 b1) (λ source_size b2. go_on (number_from 0 0 b2)
    (λ target_size b3. go_on (number_from 0 0 b3) (λ instructions_size b4. go_on (number_from 0 0 b4) (λ new_size b5.
    window_with offset source_size target_size instructions_size new_size b5)))))

-- the old text while a delta is read: the bytes that are held, their offset as windows state it, and the bytes that were not
-- read
pub record Source : Type 0 where
  pub offset : ℕ
  pub held : List ℕ
  pub unread : List ℕ

-- the source view slides to this offset and size: held bytes before it are dropped, and those that it lacks are read. It may
-- not slide back, at either end. If it begins after what was read, the bytes between are not skipped
abbrev pub slid : (offset size : ℕ) → Source → Option Source
slid offset size s =
    let kept = drop (offset - s.offset) s.held in
    let lacks = size - length kept in
    if nat_le s.offset offset && (size == 0 || nat_le (length kept) size) && nat_le lacks (length s.unread)
    then Some record { offset = offset; held = kept ++ take lacks s.unread; unread = drop lacks s.unread }
    else None

-- the text that windows make, after what was made so far. Each window has a byte, so there are no more than bytes
abbrev pub text_from : (most : ℕ) → (made : List ℕ) → Source → (windows : List ℕ) → Option (List ℕ)
text_from most made s [] = Some made
text_from zero made s (b ∷ bs) = None
text_from (suc most) made s (b ∷ bs) = go_on (window_at (b ∷ bs)) (λ w rest. option_and_then (λ (seen : Source).
    option_and_then (λ (target : List ℕ). text_from most (made ++ target) seen rest)
    (target_by (length w.instructions) (take w.source_size seen.held) w.target_size w.instructions
    record { made = []; unused = w.new_data }))
    (slid w.offset w.source_size s))

-- what a delta makes of an old text. There is none if load rejects the delta, if it is of version 1 or 2, or if a source view
-- of no bytes slides back: what load makes of that is not defined
abbrev pub patch : (delta old : List ℕ) → Option (List ℕ)
patch delta old =
    if bytes_eq (take 4 delta) (codes "SVN" ++ 0 ∷ [])
    then text_from (length delta) [] record { offset = 0; held = []; unread = old } (drop 4 delta) else None
