-- Counting and choosing by number, over places 0 to n - 1, with the last place peeled. Assumes nothing.
use Rattle.std.specs.Prelude.{◌≡◌, ℕ, zero, suc, ◌+◌, ◌<◌, Bool, true, false, if◌then◌else◌, Some, None, Option, MatchOption}
use Rattle.std.specs.Option.{option_or}

-- what one place adds to a count
abbrev pub tick : Bool → ℕ
tick true = 1
tick false = 0

-- how many places below n pass a test
unfoldable pub count : (ℕ → Bool) → ℕ → ℕ
count p zero = 0
count p (suc n) = tick (p n) + count p n

-- the lowest place below n that passes a test
unfoldable pub lowest : (ℕ → Bool) → ℕ → Option ℕ
lowest p zero = None
lowest p (suc n) = option_or (lowest p n) (if p n then Some n else None)

-- the law of `lowest`: no place below n passes; or the result is a place below n that passes, and none below it does
abbrev pub IsLowest : (ℕ → Bool) → ℕ → Option ℕ → Type 0
IsLowest p n r = MatchOption r ((i : ℕ) → i < n → p i ≡ false) (λ i. (i < n) × (p i ≡ true) × ((j : ℕ) → j < i → p j ≡ false))
