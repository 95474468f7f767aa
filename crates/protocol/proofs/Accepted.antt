-- What an accepted call says of the set that it takes, and what lawful models then return.
use Rattle.std.proofs.Common.{◌≡◌, ℕ, ◌+◌, ◌/◌, ◌^◌, ◌<◌, ◌≤◌, Bool, true, false, List, length, None, sym, ap, ◌∙◌, arith}
use Rattle.std.proofs.lemmas.Bool.Decides.{nat_tests}
use Rattle.std.proofs.Math.Pow.{pow_mono}
use Rattle.std.proofs.Math.Nat.{div-lt_iff_lt-mul}
use Rattle.std.proofs.lemmas.Nat.{pow_pos}
use Rattle.values.specs.Counting.{count}
use Rattle.models.specs.declared.classes.Class.{Class}
use Rattle.models.specs.declared.classes.Counts.{Counts}
use Rattle.models.specs.Sets.{has, members}
use Rattle.models.specs.Laws.{not_honest, free, forger, Meaning, Few, Move, Kept}
use Rattle.protocol.specs.Machine.{Setting, Block, needed, misfits, open_refusal, seat_refusal, decision_refusal}
use Rattle.protocol.proofs.Counting.{count_mono, count_within}
use Rattle.protocol.proofs.Hearing.{Behave}

fits : (n t set : ℕ) → n ≤ 16 → t < n → misfits n t set ≡ false → Few set t
fits n t set small lt e =
    let inside : set / 2 ^ n < 1 = grind (arith, nat_tests) in record {
      bits = omega (arith, (div-lt_iff_lt-mul (pow_pos n)).0 inside, pow_mono small);
      few = let f : members set ≤ t = grind (arith, nat_tests) in omega (arith, f);
    }

-- what an accepted open says
pub record Opens (x : Setting) (m : Meaning) (n t : ℕ) (offered : List (List ℕ)) (initial : ℕ) : Type 0 where
  pub some : 1 ≤ n
  pub small : n ≤ 16
  pub faults : t < n
  pub big : (m.counts t).b + (m.counts t).e + (m.counts t).l < n
  pub cells : needed n ≤ x.cells
  pub proposals : length offered ≡ n
  pub initial_fits : misfits n t initial ≡ false
  pub initial_few : Few initial t

pub open_accepted : (x : Setting) (m : Meaning) (n t : ℕ) (proposals : List (List ℕ)) (initial : ℕ) → open_refusal x m n t proposals initial ≡ None → Opens x m n t proposals initial
open_accepted x m n t proposals initial e =
    let sized : (1 ≤ n) × (n ≤ 16) × (t < n) × ((m.counts t).b + (m.counts t).e + (m.counts t).l < n) = grind (arith, nat_tests) in
    let given : (needed n ≤ x.cells) × (length proposals ≡ n) × (misfits n t initial ≡ false) = grind (arith, nat_tests) in record {
      some = sized.0;
      small = sized.1;
      faults = sized.2;
      big = sized.3;
      cells = given.0;
      proposals = given.1;
      initial_fits = given.2;
      initial_few = fits n t initial sized.1 sized.2 given.2;
    }

-- what an accepted seat says
pub seat_accepted : (m : Meaning) (b : Block) (set : ℕ) → b.n ≤ 16 → b.t < b.n → seat_refusal m b set ≡ None → Few b.last b.t → Move m.allowed b.last set b.t
seat_accepted m b set small lt e few =
    let fit : (misfits b.n b.t set ≡ false) × (m.allowed b.last set b.t ≡ true) = grind (arith, nat_tests) in
    record { from = few; to = fits b.n b.t set small lt fit.0; may = fit.1 }

-- what an accepted decision says
pub decision_accepted : (b : Block) (i : ℕ) → decision_refusal b i ≡ None → (i < b.n) × (has b.last i ≡ false)
decision_accepted b i e = grind (arith, nat_tests)

-- a lawful model's counts bound the classes of a block
pub behaves : (n : ℕ) (most : Counts) (class known : ℕ → Class) (before now : ℕ) → n ≤ 16 → ((i : ℕ) → i < n → class i ≡ known i) → Kept known most before now → Behave n most class
behaves n most class known before now small same k = record {
  faults = omega (arith, k.faults, bound not_honest);
  frees = omega (arith, k.frees, bound free);
  forgers = omega (arith, k.forgers, bound forger);
}
  where
    bound : (q : Class → Bool) → count (λ i. q (class i)) n ≤ count (λ i. q (known i)) 16
    bound q = omega (arith, count_mono (λ i. q (class i)) (λ i. q (known i)) n (λ i lt t. ap q (sym (same i lt)) ∙ t), count_within (λ i. q (known i)) n 16 small)
