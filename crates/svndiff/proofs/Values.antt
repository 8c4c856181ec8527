-- Worked values of the definitions, computed and proved by the kernel.
use Rattle.svndiff.proofs.Prelude.{List, None, Some, [], codes, refl, ℕ, ◌++◌, ◌-◌, ◌^◌, ◌∷◌, ◌≡◌}
use Rattle.svndiff.specs.Svndiff.{number_from, patch, size_at, window_with}

-- a delta with these windows
abbrev delta : List ℕ → List ℕ
delta windows = codes "SVN" ++ 0 ∷ windows

abbrev old : List ℕ
old = codes "0123456789abcdef"

-- a number has seven bits a byte, the highest first
one_byte : number_from 0 0 (127 ∷ 5 ∷ []) ≡ Some (127, 5 ∷ [])
one_byte = refl

two_bytes : number_from 0 0 (129 ∷ 2 ∷ 5 ∷ []) ≡ Some (130, 5 ∷ [])
two_bytes = refl

unended : number_from 0 0 (129 ∷ 130 ∷ []) ≡ None
unended = refl

-- it may have leading zeros, but no more than ten bytes
ten_bytes : number_from 0 0 (128 ∷ 128 ∷ 128 ∷ 128 ∷ 128 ∷ 128 ∷ 128 ∷ 128 ∷ 128 ∷ 7 ∷ []) ≡ Some (7, [])
ten_bytes = refl

eleven_bytes : number_from 0 0 (128 ∷ 128 ∷ 128 ∷ 128 ∷ 128 ∷ 128 ∷ 128 ∷ 128 ∷ 128 ∷ 128 ∷ 7 ∷ []) ≡ None
eleven_bytes = refl

-- the largest number, and one above it, of which 64 bits are left
largest : number_from 0 0 (129 ∷ 255 ∷ 255 ∷ 255 ∷ 255 ∷ 255 ∷ 255 ∷ 255 ∷ 255 ∷ 127 ∷ []) ≡ Some (2 ^ 64 - 1, [])
largest = refl

above_largest : number_from 0 0 (130 ∷ 128 ∷ 128 ∷ 128 ∷ 128 ∷ 128 ∷ 128 ∷ 128 ∷ 128 ∷ 5 ∷ []) ≡ Some (5, [])
above_largest = refl

-- a size is in six bits
size_in_byte : size_at 131 (9 ∷ []) ≡ Some (3, 9 ∷ [])
size_in_byte = refl

size_behind_byte : size_at 128 (9 ∷ []) ≡ Some (9, [])
size_behind_byte = refl

-- a source view and a target have 100 KB at most
largest_views : window_with 0 102400 102400 0 0 [] ≡ Some
    (record { offset = 0; source_size = 102400; target_size = 102400; instructions = []; new_data = [] }, [])
largest_views = refl

too_large_view : window_with 0 102401 0 0 0 [] ≡ None
too_large_view = refl

too_large_target : window_with 0 0 102401 0 0 [] ≡ None
too_large_target = refl

-- an offset has 63 bits
farthest : window_with (2 ^ 63 - 1) 0 0 1 1 (7 ∷ 8 ∷ 9 ∷ []) ≡ Some
    (record { offset = 2 ^ 63 - 1; source_size = 0; target_size = 0; instructions = 7 ∷ []; new_data = 8 ∷ [] }, 9 ∷ [])
farthest = refl

too_far : window_with (2 ^ 63) 0 0 0 0 [] ≡ None
too_far = refl

-- the letters of version 0
other_letters : patch (codes "SVM" ++ 0 ∷ []) old ≡ None
other_letters = refl

other_version : patch (codes "SVN" ++ 1 ∷ []) old ≡ None
other_version = refl

too_few_letters : patch (codes "SVN") old ≡ None
too_few_letters = refl

no_letters : patch [] old ≡ None
no_letters = refl

-- a delta may have no window
no_window : patch (delta ([])) old ≡ Some []
no_window = refl

-- all three instructions
three_instructions : patch (delta (0 ∷ 16 ∷ 12 ∷ 5 ∷ 3 ∷ 4 ∷ 2 ∷ 131 ∷ 69 ∷ 1 ∷ 120 ∷ 121 ∷ 122 ∷ [])) old ≡ Some (codes "2345xyz345xy")
three_instructions = refl

-- what is copied may be copied again
overlapping_copy : patch (delta (0 ∷ 0 ∷ 7 ∷ 3 ∷ 2 ∷ 130 ∷ 69 ∷ 0 ∷ 97 ∷ 98 ∷ [])) [] ≡ Some (codes "abababa")
overlapping_copy = refl

-- the old text goes on where the view before ended
views_in_order : patch (delta (0 ∷ 8 ∷ 2 ∷ 2 ∷ 0 ∷ 2 ∷ 0 ∷ 8 ∷ 8 ∷ 2 ∷ 2 ∷ 0 ∷ 2 ∷ 0 ∷ [])) old ≡ Some (codes "0189")
views_in_order = refl

-- views may overlap
views_overlap : patch (delta (0 ∷ 8 ∷ 2 ∷ 2 ∷ 0 ∷ 2 ∷ 0 ∷ 4 ∷ 8 ∷ 2 ∷ 2 ∷ 0 ∷ 2 ∷ 3 ∷ [])) old ≡ Some (codes "0178")
views_overlap = refl

-- the same view once more
view_again : patch (delta (0 ∷ 8 ∷ 2 ∷ 2 ∷ 0 ∷ 2 ∷ 0 ∷ 0 ∷ 8 ∷ 2 ∷ 2 ∷ 0 ∷ 2 ∷ 0 ∷ [])) old ≡ Some (codes "0101")
view_again = refl

-- a view may not begin before the last one
begins_before : patch (delta (4 ∷ 8 ∷ 2 ∷ 2 ∷ 0 ∷ 2 ∷ 0 ∷ 3 ∷ 9 ∷ 2 ∷ 2 ∷ 0 ∷ 2 ∷ 0 ∷ [])) old ≡ None
begins_before = refl

-- or end before it
ends_before : patch (delta (0 ∷ 8 ∷ 2 ∷ 2 ∷ 0 ∷ 2 ∷ 0 ∷ 2 ∷ 5 ∷ 2 ∷ 2 ∷ 0 ∷ 2 ∷ 0 ∷ [])) old ≡ None
ends_before = refl

-- a source view of no bytes leaves the held ones
empty_view : patch (delta (0 ∷ 8 ∷ 1 ∷ 2 ∷ 0 ∷ 1 ∷ 0 ∷ 0 ∷ 0 ∷ 1 ∷ 1 ∷ 1 ∷ 129 ∷ 122 ∷ 0 ∷ 8 ∷ 1 ∷ 2 ∷ 0 ∷ 1 ∷ 7 ∷ [])) old ≡ Some (codes "0z7")
empty_view = refl

-- so the next view may not end before them
ends_before_held : patch (delta (0 ∷ 8 ∷ 1 ∷ 2 ∷ 0 ∷ 1 ∷ 0 ∷ 0 ∷ 0 ∷ 1 ∷ 1 ∷ 1 ∷ 129 ∷ 122 ∷ 0 ∷ 7 ∷ 1 ∷ 2 ∷ 0 ∷ 1 ∷ 0 ∷ [])) old ≡ None
ends_before_held = refl

-- but it may not begin before them
begins_before_held : patch (delta (4 ∷ 8 ∷ 1 ∷ 2 ∷ 0 ∷ 1 ∷ 0 ∷ 0 ∷ 0 ∷ 1 ∷ 1 ∷ 1 ∷ 129 ∷ 122 ∷ [])) old ≡ None
begins_before_held = refl

-- a gap is not skipped
gap_not_skipped : patch (delta (10 ∷ 3 ∷ 3 ∷ 2 ∷ 0 ∷ 3 ∷ 0 ∷ [])) old ≡ Some (codes "012")
gap_not_skipped = refl

-- nor one behind another view
later_gap_not_skipped : patch (delta (0 ∷ 3 ∷ 1 ∷ 2 ∷ 0 ∷ 1 ∷ 0 ∷ 8 ∷ 3 ∷ 3 ∷ 2 ∷ 0 ∷ 3 ∷ 0 ∷ [])) old ≡ Some (codes "0345")
later_gap_not_skipped = refl

-- the view is within the old text
view_is_all : patch (delta (0 ∷ 16 ∷ 1 ∷ 2 ∷ 0 ∷ 1 ∷ 15 ∷ [])) old ≡ Some (codes "f")
view_is_all = refl

view_is_more : patch (delta (0 ∷ 17 ∷ 1 ∷ 2 ∷ 0 ∷ 1 ∷ 0 ∷ [])) old ≡ None
view_is_more = refl

-- also if nothing is made
empty_view_is_more : patch (delta (0 ∷ 17 ∷ 0 ∷ 0 ∷ 0 ∷ [])) old ≡ None
empty_view_is_more = refl

-- a window may make nothing
makes_nothing : patch (delta (0 ∷ 16 ∷ 0 ∷ 0 ∷ 0 ∷ [])) old ≡ Some []
makes_nothing = refl

-- a copy is within the view
copies_its_end : patch (delta (0 ∷ 4 ∷ 2 ∷ 2 ∷ 0 ∷ 2 ∷ 2 ∷ [])) old ≡ Some (codes "23")
copies_its_end = refl

copies_behind_view : patch (delta (0 ∷ 4 ∷ 2 ∷ 2 ∷ 0 ∷ 2 ∷ 3 ∷ [])) old ≡ None
copies_behind_view = refl

-- also if the target gets its size otherwise
copies_too_much : patch (delta (0 ∷ 4 ∷ 5 ∷ 3 ∷ 3 ∷ 3 ∷ 2 ∷ 131 ∷ 97 ∷ 98 ∷ 99 ∷ [])) old ≡ None
copies_too_much = refl

-- or begins within the target of its own window
copies_last_byte : patch (delta (0 ∷ 0 ∷ 3 ∷ 3 ∷ 2 ∷ 130 ∷ 65 ∷ 1 ∷ 97 ∷ 98 ∷ [])) [] ≡ Some (codes "abb")
copies_last_byte = refl

copies_next_byte : patch (delta (0 ∷ 0 ∷ 3 ∷ 3 ∷ 2 ∷ 130 ∷ 65 ∷ 2 ∷ 97 ∷ 98 ∷ [])) [] ≡ None
copies_next_byte = refl

copies_other_target : patch (delta (0 ∷ 0 ∷ 1 ∷ 1 ∷ 1 ∷ 129 ∷ 97 ∷ 0 ∷ 0 ∷ 1 ∷ 2 ∷ 0 ∷ 65 ∷ 0 ∷ [])) [] ≡ None
copies_other_target = refl

-- new data is taken in order, and all of it
takes_in_order : patch (delta (0 ∷ 0 ∷ 3 ∷ 2 ∷ 3 ∷ 129 ∷ 130 ∷ 97 ∷ 98 ∷ 99 ∷ [])) [] ≡ Some (codes "abc")
takes_in_order = refl

leaves_new_data : patch (delta (0 ∷ 0 ∷ 1 ∷ 1 ∷ 2 ∷ 129 ∷ 97 ∷ 98 ∷ [])) [] ≡ None
leaves_new_data = refl

lacks_new_data : patch (delta (0 ∷ 0 ∷ 2 ∷ 1 ∷ 1 ∷ 130 ∷ 97 ∷ [])) [] ≡ None
lacks_new_data = refl

lacks_some_of_it : patch (delta (0 ∷ 16 ∷ 4 ∷ 3 ∷ 1 ∷ 131 ∷ 3 ∷ 0 ∷ 122 ∷ [])) old ≡ None
lacks_some_of_it = refl

-- the target has its size
target_too_short : patch (delta (0 ∷ 16 ∷ 5 ∷ 2 ∷ 0 ∷ 4 ∷ 0 ∷ [])) old ≡ None
target_too_short = refl

target_too_long : patch (delta (0 ∷ 16 ∷ 3 ∷ 2 ∷ 0 ∷ 4 ∷ 0 ∷ [])) old ≡ None
target_too_long = refl

-- each instruction appends something
appends_nothing : patch (delta (0 ∷ 16 ∷ 4 ∷ 5 ∷ 0 ∷ 4 ∷ 0 ∷ 0 ∷ 0 ∷ 0 ∷ [])) old ≡ None
appends_nothing = refl

-- there are three instructions
fourth_instruction : patch (delta (0 ∷ 16 ∷ 2 ∷ 1 ∷ 2 ∷ 194 ∷ 97 ∷ 98 ∷ [])) old ≡ None
fourth_instruction = refl

-- a size may be a number, also if it is small
size_behind : patch (delta (0 ∷ 16 ∷ 4 ∷ 3 ∷ 0 ∷ 0 ∷ 4 ∷ 0 ∷ [])) old ≡ Some (codes "0123")
size_behind = refl

-- an instruction ends with its section
instruction_cut : patch (delta (0 ∷ 16 ∷ 3 ∷ 1 ∷ 2 ∷ 2 ∷ 0 ∷ 122 ∷ [])) old ≡ None
instruction_cut = refl

-- the sections are whole
instructions_cut : patch (delta (0 ∷ 16 ∷ 4 ∷ 2 ∷ 0 ∷ 4 ∷ [])) old ≡ None
instructions_cut = refl

new_data_cut : patch (delta (0 ∷ 0 ∷ 3 ∷ 1 ∷ 3 ∷ 131 ∷ 97 ∷ 98 ∷ [])) [] ≡ None
new_data_cut = refl

unused_data_cut : patch (delta (0 ∷ 0 ∷ 2 ∷ 1 ∷ 3 ∷ 130 ∷ 97 ∷ 98 ∷ [])) [] ≡ None
unused_data_cut = refl

-- nothing is left behind the last window
zero_left : patch (delta (0 ∷ 16 ∷ 4 ∷ 2 ∷ 0 ∷ 4 ∷ 0 ∷ 0 ∷ [])) old ≡ None
zero_left = refl

-- but five zeros are a window
empty_window_left : patch (delta (0 ∷ 16 ∷ 4 ∷ 2 ∷ 0 ∷ 4 ∷ 0 ∷ 0 ∷ 0 ∷ 0 ∷ 0 ∷ 0 ∷ [])) old ≡ Some (codes "0123")
empty_window_left = refl
