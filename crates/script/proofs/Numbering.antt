-- What `parse` reads is the number of the definitions.
use Rattle.std.proofs.Common.{◌≡◌, ℕ, ◌^◌, ◌<◌, List, true, arith, rules, length}
use Rattle.std.specs.Prelude.{Result, Ok, Err}
use Rattle.std.specs.Result.{OkIff, result_ok}
use Rattle.std.specs.Char.{is_ascii_digit}
use Rattle.std.specs.List.{list_all}
use Rattle.std.specs.Str.{IsUtf8}
use Rattle.std.specs.Str.Parse.{ParsesUnsigned, digits_value, digits_value_after}
use Rattle.std.proofs.lemmas.Str.Parse.{IsNumeralModel, numerals_by_fold, parse_digits}
use Rattle.std.proofs.lemmas.Str.{IsUtf8-from_ascii}
use Rattle.std.proofs.lemmas.Fmt.{IsAscii-from_digits}
use Rattle.script.specs.Numbers.{number_of, is_numeral}

pub own : IsNumeralModel (λ ds. list_all is_ascii_digit ds ≡ true) (digits_value 10)
own = numerals_by_fold _ (search rules) (digits_value_after 10) (search rules)

digits : (w : List ℕ) → is_numeral w ≡ true → list_all is_ascii_digit w ≡ true
digits w e = grind (arith, e)

pub numeral_utf8 : (w : List ℕ) → is_numeral w ≡ true → IsUtf8 w
numeral_utf8 w e = IsUtf8-from_ascii w (IsAscii-from_digits w (own.to w (digits w e)))

told : {E : Type 0} (w : List ℕ) (r : Result ℕ E) → is_numeral w ≡ true → OkIff r ((0 < length w) × (digits_value 10 w < 2 ^ 64)) (digits_value 10 w) → result_ok r ≡ number_of w
told w (Ok x) e h = grind (arith, h, e)
told w (Err y) e h = grind (arith, h, e)

pub parsed : {E : Type 0} (w : List ℕ) (r : Result ℕ E) → is_numeral w ≡ true → ParsesUnsigned 64 10 w r → result_ok r ≡ number_of w
parsed w r e h = told w r e (parse_digits own 64 w r h (digits w e))
