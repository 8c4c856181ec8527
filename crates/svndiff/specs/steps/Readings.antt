-- What is read of a delta, as values of the definition.
use Rattle.std.specs.Prelude.{◌≡◌, ◌<◌, ◌≤◌, ℕ, ◌-◌, true, false, List, [], ◌∷◌, ◌++◌, Option, Result, Ok, Err, None, Some, length, take, drop, option_map}
use Rattle.std.specs.Borrow.{Bor}
use Rattle.svndiff.specs.Svndiff.{Instruction, Source, Target, Window, applied, is_applicable, size_at, target_by}
use Rattle.svndiff.specs.declared.error.NotApplied.{NotApplied}
use Rattle.svndiff.specs.declared.error.NotApplied.TheVariants as errors
use Rattle.svndiff.specs.declared.instructions.Found.{Found}
use Rattle.svndiff.specs.declared.instructions.Instruction as rust
use Rattle.svndiff.specs.declared.instructions.Instruction.TheVariants as variants
use Rattle.svndiff.specs.declared.sources.Source as rust_source
use Rattle.svndiff.specs.declared.windows.Window as rust_window
use Rattle.svndiff.specs.declared.numbers.Number.{Number}

-- an instruction
abbrev pub instruction_of : rust.Instruction → Instruction
instruction_of (variants.FromSource size offset) = Instruction.FromSource size offset
instruction_of (variants.FromTarget size offset) = Instruction.FromTarget size offset
instruction_of (variants.New size) = Instruction.New size

-- what is read at the front of some bytes, if it is a number with this value and place after it
abbrev pub number_with : List ℕ → Number → ℕ × List ℕ
number_with bytes it = (it.value, drop it.after bytes)

-- this is the size of the instruction at the front of some bytes, and the place after it in all bytes
abbrev pub IsSizeAt : List ℕ → List ℕ → Option Number → Type 0
IsSizeAt (first ∷ bs) bytes it = size_at first bs ≡ option_map (number_with bytes) it
IsSizeAt [] bytes it = Unit {0}

-- an instruction with this place after it, and the bytes there
abbrev pub found_of : List ℕ → Found → Instruction × List ℕ
found_of bytes it = (instruction_of it.instruction, drop it.after bytes)

-- the bytes from a place to another
abbrev pub between : List ℕ → (from to : ℕ) → List ℕ
between xs from to = take (to - from) (drop from xs)

-- a window, whose parts are at their places in a delta
abbrev pub window_of : List ℕ → rust_window.Window → Window
window_of delta w = record {
  offset = w.offset;
  source_size = w.source_size;
  target_size = w.target_size;
  instructions = between delta w.instructions w.new_data;
  new_data = between delta w.new_data w.after;
}

-- the places of a window's parts are in order after its own, in the delta
pub record AreParts (at : ℕ) (delta : List ℕ) (w : rust_window.Window) : Type 0 where
  pub instructions : at < w.instructions
  pub new_data : w.instructions ≤ w.new_data
  pub after : w.new_data ≤ w.after
  pub within : w.after ≤ length delta

-- the old text while a delta is read
abbrev pub source_of : rust_source.Source → Source
source_of s = record {
  offset = s.offset;
  held = between s.base.now s.start s.end;
  unread = drop s.end s.base.now;
}

-- the target that begins at a place of the new text, with this new data left
abbrev pub target_in : (text : List ℕ) → (start : ℕ) → (unused : List ℕ) → Target
target_in text start unused = record { made = drop start text; unused = unused }

-- whether the instruction can be applied, and if so, the text and the new data that is left: the target is that after it, and
-- the text before the target stays
abbrev pub IsApplied : (view : List ℕ) → (size : ℕ) → Instruction → (text : List ℕ) → (start : ℕ) → (unused : List ℕ)
    → (after : List ℕ) → (left : Option (Bor (List ℕ))) → Type 0
IsApplied view size i text start unused after None = is_applicable view size i (target_in text start unused) ≡ false
IsApplied view size i text start unused after (Some left) = (is_applicable view size i (target_in text start unused) ≡ true)
    × (take start after ≡ take start text)
    × (target_in after start left.now ≡ applied view i (target_in text start unused))

-- the target that these instructions make
abbrev pub target_from : (view : List ℕ) → (size : ℕ) → (instructions new_data : List ℕ) → Option (List ℕ)
target_from view size instructions new_data =
    target_by (length instructions) view size instructions record { made = []; unused = new_data }

-- what an error says of the text that is defined: there is none, if the delta is wrong, and nothing, if memory is out
abbrev pub Says : NotApplied → Option (List ℕ) → Type 0
Says errors.Memory text = Unit {0}
Says (errors.Broken defect place) text = text ≡ None

-- the byte that an error names is in the delta, or at its end
abbrev pub NamesPlaceIn : (delta : List ℕ) → NotApplied → Type 0
NamesPlaceIn delta errors.Memory = Unit {0}
NamesPlaceIn delta (errors.Broken defect place) = place ≤ length delta

-- the text that is defined is appended, or there is none
abbrev pub Appends : Option (List ℕ) → (text after : List ℕ) → Result (Unit {0}) NotApplied → Type 0
Appends defined text after (Ok done) = (target : List ℕ) × (defined ≡ Some target) × (after ≡ text ++ target)
Appends defined text after (Err e) = Says e defined
