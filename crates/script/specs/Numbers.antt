-- Numbers, sets and figures, each by the word that writes it. Assumes nothing.
use Rattle.std.specs.Prelude.{ℕ, ◌-◌, ◌^◌, Bool, if◌then◌else◌, not, ◌&&◌, ◌||◌, List, [], ◌∷◌, length, Some, None, Option, ◌==◌, nat_lt, slice_index}
use Rattle.std.specs.Option.{option_map, option_and_then}
use Rattle.std.specs.List.{slice_split, list_all, fold, between}
use Rattle.std.specs.Char.{is_ascii_digit}
use Rattle.std.specs.Str.Parse.{digits_value}
use Rattle.std.specs.Int.RustNames.{bit_or}
use Rattle.script.specs.Words.{comma, slash}
use Rattle.models.specs.declared.sets.TheConstants.{MOST_CONTROLLERS}

-- one digit or more, and nothing else
abbrev pub is_numeral : List ℕ → Bool
is_numeral word = not (length word == 0) && list_all is_ascii_digit word

-- the number that a word writes in decimal digits, if it is below a limit
abbrev pub number_below : (limit : ℕ) → List ℕ → Option ℕ
number_below limit word = if is_numeral word && nat_lt (digits_value 10 word) limit then Some (digits_value 10 word) else None

-- a number as a call takes it
abbrev pub number_of : List ℕ → Option ℕ
number_of word = number_below (2 ^ 64) word

-- the numbers that some words write, if each writes one below the limit
abbrev pub numbers_below : (limit : ℕ) → List (List ℕ) → Option (List ℕ)
numbers_below limit [] = Some []
numbers_below limit (word ∷ words) = option_and_then (λ x. option_map (λ xs. x ∷ xs) (numbers_below limit words)) (number_below limit word)

abbrev pub is_slash : ℕ → Bool
is_slash b = b == slash

abbrev pub is_comma : ℕ → Bool
is_comma b = b == comma

-- a figure is one number or four, with a slash between two
abbrev pub is_figure_size : List (List ℕ) → Bool
is_figure_size parts = length parts == 1 || length parts == 4

abbrev pub figure_in : List (List ℕ) → Option (List ℕ)
figure_in parts = if is_figure_size parts then numbers_below (2 ^ 16) parts else None

abbrev pub figure_of : List ℕ → Option (List ℕ)
figure_of word = figure_in (slice_split is_slash word)

-- the set with these members: the number that has a bit for each
abbrev pub with_member : (set i : ℕ) → ℕ
with_member set i = bit_or set (2 ^ i)

abbrev pub set_with : List ℕ → ℕ
set_with members = fold with_member 0 members

-- what stands between braces
abbrev pub braced : List ℕ → Option (List ℕ)
braced word = if nat_lt 1 (length word) && slice_index word 0 == 123 && slice_index word (length word - 1) == 125 then Some (between 1 (length word - 1) word) else None

-- the members of a set, with a comma between two
abbrev pub members_of : List ℕ → Option (List ℕ)
members_of inside = if length inside == 0 then Some [] else numbers_below MOST_CONTROLLERS (slice_split is_comma inside)

abbrev pub set_in : List ℕ → Option ℕ
set_in inside = option_map set_with (members_of inside)

abbrev pub set_of : List ℕ → Option ℕ
set_of word = option_and_then set_in (braced word)
