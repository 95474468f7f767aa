-- The number by which people know each refusal, and what holds of its words.
use Rattle.std.specs.Prelude.{◌≡◌, ℕ, ◌<◌, true, List, length, ◌&&◌, nat_le, Some, None, Option, Result, MatchResult}
use Rattle.std.specs.List.{list_all}
use Rattle.values.specs.declared.refusals.Refusal.{Refusal}
use Rattle.values.specs.declared.refusals.Refusal.TheVariants.{
  BlockSize,
  FaultCount,
  Resilience,
  StoreSize,
  ProposalCount,
  SetMembers,
  ForbiddenMove,
  OutOfTurn,
  NoSuchPlace,
  NotForgeable,
  RoundLimit,
  WasSeated,
  FileSize,
  HeaderCode,
  Layout,
  Value,
  ForgeryLine,
  TextRoom,
}

abbrev pub number_of : Refusal → ℕ
number_of BlockSize = 1
number_of FaultCount = 2
number_of Resilience = 3
number_of StoreSize = 4
number_of ProposalCount = 5
number_of SetMembers = 6
number_of ForbiddenMove = 7
number_of OutOfTurn = 8
number_of NoSuchPlace = 9
number_of NotForgeable = 10
number_of RoundLimit = 11
number_of WasSeated = 12
number_of FileSize = 21
number_of HeaderCode = 22
number_of Layout = 23
number_of Value = 24
number_of ForgeryLine = 25
number_of TextRoom = 26

-- words for people fit into a line: there are some, and all are plain print (32 to 126), so that none ends the line
pub record IsOneLine (words : List ℕ) : Type 0 where
  pub some : 0 < length words
  pub plain : list_all (λ b. nat_le 32 b && nat_le b 126) words ≡ true

-- the result is an error exactly if there is a refusal, and then it is that refusal
abbrev pub TellsWhy : {A : Type 0} → Option Refusal → Result A Refusal → Type 0
TellsWhy refusal result = MatchResult result (λ _. refusal ≡ None) (λ why. refusal ≡ Some why)

-- the result is something as asked for, or an error that is this refusal
abbrev pub FindsOr : {A : Type 0} → (Found : A → Type 0) → Option Refusal → Result A Refusal → Type 0
FindsOr Found refusal result = MatchResult result Found (λ why. refusal ≡ Some why)
