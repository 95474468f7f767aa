-- What a model of faults returns, and the four laws. Assumes nothing.
use Rattle.std.specs.Prelude.{◌≡◌, ℕ, ◌^◌, ◌<◌, ◌≤◌, min, Bool, true, false, ◌≢◌}
use Rattle.values.specs.Counting.{count}
use Rattle.models.specs.declared.classes.Class.{Class}
use Rattle.models.specs.declared.classes.Class.TheVariants.{Honest, Silent, Uniform, Free}
use Rattle.models.specs.declared.classes.Counts.{Counts}
use Rattle.models.specs.declared.sets.TheConstants.{MOST_CONTROLLERS}
use Rattle.models.specs.Sets.{has, members}

-- whether a sender of a class is not honest
abbrev pub not_honest : Class → Bool
not_honest Honest = false
not_honest Silent = true
not_honest Uniform = true
not_honest Free = true

-- whether it is free
abbrev pub free : Class → Bool
free Honest = false
free Silent = false
free Uniform = false
free Free = true

-- whether it is free or uniform, and so sends what was forged
abbrev pub forger : Class → Bool
forger Honest = false
forger Silent = false
forger Uniform = true
forger Free = true

-- what a model returns: whether a move from the set before to the set after is allowed, a controller's class in the
-- round of the set after, and the counts b, e and l
pub record Meaning : Type 0 where
  pub allowed : (before after t : ℕ) → Bool
  pub class : (before after t controller : ℕ) → Class
  pub counts : (t : ℕ) → Counts

-- each count is at most 48
pub record Bounded (m : Meaning) : Type 0 where
  pub b_most : (t : ℕ) → (m.counts t).b ≤ 48
  pub e_most : (t : ℕ) → (m.counts t).e ≤ 48
  pub l_most : (t : ℕ) → (m.counts t).l ≤ 48

-- for a t above 15 a model returns what it returns for 15
pub record Capped (m : Meaning) : Type 0 where
  pub allowed_at : (before after t : ℕ) → 15 < t → m.allowed before after t ≡ m.allowed before after 15
  pub class_at : (before after t i : ℕ) → 15 < t → m.class before after t i ≡ m.class before after 15 i
  pub counts_at : (t : ℕ) → 15 < t → m.counts t ≡ m.counts 15

-- a set of controllers that has at most t members, and at most 15
pub record Few (set t : ℕ) : Type 0 where
  pub bits : set < 2 ^ MOST_CONTROLLERS
  pub few : members set ≤ min t 15

-- an allowed move between sets of at most t members
pub record Move (allowed : ℕ → ℕ → ℕ → Bool) (before after t : ℕ) : Type 0 where
  pub from : Few before t
  pub to : Few after t
  pub may : allowed before after t ≡ true

-- laws 1 to 3, of one move: what the classes after it keep, with the model's counts
pub record Kept (class : ℕ → Class) (most : Counts) (before after : ℕ) : Type 0 where
  -- 1. a controller of the set before is not honest
  pub seated_before : (i : ℕ) → i < MOST_CONTROLLERS → has before i ≡ true → class i ≢ Honest
  -- 2. a controller of neither set is honest
  pub never_seated : (i : ℕ) → i < MOST_CONTROLLERS → has before i ≡ false → has after i ≡ false → class i ≡ Honest
  -- 3. the counts bound the classes: b those that are not honest, e the free ones, l the free and uniform ones together
  pub faults : count (λ i. not_honest (class i)) MOST_CONTROLLERS ≤ most.b
  pub frees : count (λ i. free (class i)) MOST_CONTROLLERS ≤ most.e
  pub forgers : count (λ i. forger (class i)) MOST_CONTROLLERS ≤ most.l

-- the four laws
pub record Lawful (m : Meaning) : Type 0 where
  -- laws 1 to 3 hold of every allowed move between sets of at most t members
  pub keeps : (before after t : ℕ) → Move m.allowed before after t → Kept (m.class before after t) (m.counts t) before after
  -- 4. faults are always allowed to stay where they are
  pub stays : (set t : ℕ) → Few set t → m.allowed set set t ≡ true

-- no count is too high: at t = 1 an allowed move reaches all three
pub record Reached (m : Meaning) : Type 0 where
  pub before : ℕ
  pub after : ℕ
  pub move : Move m.allowed before after 1
  pub faults : count (λ i. not_honest (m.class before after 1 i)) MOST_CONTROLLERS ≡ (m.counts 1).b
  pub frees : count (λ i. free (m.class before after 1 i)) MOST_CONTROLLERS ≡ (m.counts 1).e
  pub forgers : count (λ i. forger (m.class before after 1 i)) MOST_CONTROLLERS ≡ (m.counts 1).l
