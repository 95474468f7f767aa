-- How a text is cut into lines, and a line into words. Assumes nothing.
use Rattle.std.specs.Prelude.{ℕ, Bool, not, ◌||◌, List, map, length, filter, ◌==◌}
use Rattle.std.specs.List.{slice_split, before_first}
use denote.Ref.{Bor}

-- the bytes that separate: words, the members of a set, and the numbers of a figure
abbrev pub space : ℕ
space = 32

abbrev pub comma : ℕ
comma = 44

abbrev pub slash : ℕ
slash = 47

abbrev pub is_line_feed : ℕ → Bool
is_line_feed b = b == 10

-- a comment begins with a #
abbrev pub is_hash : ℕ → Bool
is_hash b = b == 35

-- a blank is a space, a tab or a carriage return
abbrev pub is_blank : ℕ → Bool
is_blank b = b == space || b == 9 || b == 13

abbrev pub is_some_text : List ℕ → Bool
is_some_text text = not (length text == 0)

-- the lines of a text; the last one ends with the text
abbrev pub lines_of : List ℕ → List (List ℕ)
lines_of text = slice_split is_line_feed text

-- the words of a line: what stands between blanks before the comment
abbrev pub words_of : List ℕ → List (List ℕ)
words_of line = filter is_some_text (slice_split is_blank (before_first is_hash line))

-- pieces of text, by their bytes
abbrev pub texts : List (Bor (List ℕ)) → List (List ℕ)
texts pieces = map (λ piece. piece.now) pieces
