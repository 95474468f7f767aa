-- A draft's calls are those that came: turn by turn.
use Rattle.std.proofs.Common.{◌≡◌, ℕ, suc, ◌+◌, ◌<◌, ◌≤◌, true, false, List, [], ◌∷◌, ◌++◌, map, length, None, Some, Option, Ok, Result, ◌==◌, refl, ap, ap₂, sym, ◌∙◌, subst, append_assoc, append-nil, length-append, arith}
use Rattle.std.specs.Prelude.{⊤}
use Rattle.std.specs.Option.{option_or}
use Rattle.std.specs.List.{list_all}
use Rattle.std.proofs.lemmas.List.{map-append}
use Rattle.std.proofs.lemmas.List.Elements.{filter-append}
use Rattle.std.proofs.lemmas.List.Folds.{list_all-append}
use Rattle.std.proofs.lemmas.Bool.{cond-true, cond-false, and_parts, and_from, eq-eqb}
use Rattle.std.proofs.lemmas.Bool.Decides.{nat_tests}
use Rattle.protocol.specs.Machine.{Call, Open, Seat, Forge, Close, Decision}
use Rattle.run_file.specs.Lines.{Line}
use Rattle.run_file.specs.Votes.{in_round, forges, lines_of, round_of, rounds_from}
use Rattle.script.specs.Scripts.{rules_of, keeps, keeps_cell}
use Rattle.script.specs.declared.scripts.ValueKind.{ValueKind}
use Rattle.packing.specs.declared.drafts.Stage.{Stage}
use Rattle.packing.specs.declared.drafts.Stage.TheVariants.{Rounds, Seated, Decisions}
use Rattle.packing.specs.declared.misfits.Misfit.{Misfit}
use Rattle.packing.specs.declared.misfits.Unfit.{Unfit}
use Rattle.packing.specs.Bytes.{Forged}
use Rattle.packing.specs.Packed.{Draft, Numbered, no_rounds, turn_misfit, place_misfit, room_misfit, misfit_of, end_misfit, added, drafted, unless}
use Rattle.packing.proofs.Parting.{lined, cell_again}

-- lines in the order of their rounds, which are below m, none of them before the round `last`
abbrev pub InOrder : (m last : ℕ) → List Line → Type 0
InOrder m last [] = ⊤
InOrder m last (x ∷ xs) = (x.round < m) × (last ≤ x.round) × InOrder m x.round xs

wider : (m last : ℕ) (xs : List Line) → InOrder m last xs → InOrder (m + 1) last xs
wider m last [] h = tt
wider m last (x ∷ xs) h = (omega (arith, h.0), h.1, wider m x.round xs h.2)

one_more : (m last : ℕ) (xs : List Line) (y : Line) → InOrder m last xs → m ≡ y.round + 1 → last ≤ y.round → InOrder m last (xs ++ y ∷ [])
one_more m last [] y h e l = (omega (arith, e), l, tt)
one_more m last (x ∷ xs) y h e l = (h.0, h.1, one_more m x.round xs y h.2 e (omega (arith, h.0, e)))

-- the lines of a round
not_of : (x : Line) (q : ℕ) → x.round < q → (x.round == q) ≡ false
not_of x q l = grind (arith, nat_tests, l)

not_of_lower : (x : Line) (q : ℕ) → q < x.round → (x.round == q) ≡ false
not_of_lower x q l = grind (arith, nat_tests, l)

none_later : (q m last : ℕ) (xs : List Line) → m ≤ q → InOrder m last xs → lines_of q xs ≡ []
none_later q m last [] l h = refl
none_later q m last (x ∷ xs) l h = cond-false _ _ _ (not_of x q (omega (arith, l, h.0))) ∙ none_later q m x.round xs l h.2

other_round : (q : ℕ) (xs : List Line) (y : Line) → q < y.round → lines_of q (xs ++ y ∷ []) ≡ lines_of q xs
other_round q xs y l = filter-append (λ x. x.round == q) xs (y ∷ []) ∙ ap (λ ys. lines_of q xs ++ ys) (cond-false _ _ _ (not_of_lower y q l)) ∙ append-nil (lines_of q xs)

own_round : (q : ℕ) (xs : List Line) (y : Line) → y.round ≡ q → lines_of q (xs ++ y ∷ []) ≡ lines_of q xs ++ y ∷ []
own_round q xs y e = filter-append (λ x. x.round == q) xs (y ∷ []) ∙ ap (λ ys. lines_of q xs ++ ys) (cond-true _ _ _ (eq-eqb y.round q e))

-- one set more, and one line more that is of no round so far
one_set_more : (r : ℕ) (sets : List ℕ) (s : ℕ) (xs : List Line) → rounds_from r (sets ++ s ∷ []) xs ≡ rounds_from r sets xs ++ round_of (r + length sets) s xs
one_set_more r [] s xs = append-nil (round_of r s xs) ∙ ap (λ q. round_of q s xs) (omega arith)
one_set_more r (y ∷ sets) s xs =
    ap (λ more. round_of r y xs ++ more) (one_set_more (suc r) sets s xs ∙ ap (λ q. rounds_from (suc r) sets xs ++ round_of q s xs) (omega arith))
    ∙ sym (append_assoc (round_of r y xs) (rounds_from (suc r) sets xs) (round_of (r + suc (length sets)) s xs))

one_line_more : (r : ℕ) (sets : List ℕ) (xs : List Line) (y : Line) → r + length sets ≤ y.round → rounds_from r sets (xs ++ y ∷ []) ≡ rounds_from r sets xs
one_line_more r [] xs y l = refl
one_line_more r (s ∷ sets) xs y l = ap₂ (λ ys more. (in_round r (Seat s) ∷ (map forges ys ++ (in_round r Close ∷ []))) ++ more) (other_round r xs y (omega (arith, l))) (one_line_more (suc r) sets xs y (omega (arith, l)))

abbrev pub calls_by : (sets : List ℕ) → List Line → List Call
calls_by sets xs = map (λ asked. asked.call) (rounds_from 0 sets xs)

abbrev forge_calls : (r : ℕ) → List Line → List Call
forge_calls r xs = map (λ asked. asked.call) (map forges (lines_of r xs))

-- the calls that have come where round r is seated: those of the rounds before, its seat, and its forges
record Under (r : ℕ) (sets : List ℕ) (xs : List Line) (come : List Call) : Type 0 where
  before : List ℕ
  set : ℕ
  sets_are : sets ≡ before ++ set ∷ []
  number : r ≡ length before
  come_are : come ≡ calls_by before xs ++ (Seat set ∷ forge_calls r xs)

-- and where decisions are asked for
pub record Behind (sets : List ℕ) (xs : List Line) (come : List Call) : Type 0 where
  pub asked : List ℕ
  pub come_are : come ≡ calls_by sets xs ++ map Decision asked

Come : Stage → (sets : List ℕ) → List Line → List Call → Type 0
Come Rounds sets xs come = come ≡ calls_by sets xs
Come (Seated r) sets xs come = Under r sets xs come
Come Decisions sets xs come = Behind sets xs come

seat_step : (sets : List ℕ) (s : ℕ) (xs : List Line) (come : List Call) → come ≡ calls_by sets xs → InOrder (length sets) 0 xs → Under (length sets) (sets ++ s ∷ []) xs (come ++ Seat s ∷ [])
seat_step sets s xs come e order = record {
  before = sets;
  set = s;
  sets_are = refl;
  number = refl;
  come_are = ap₂ (λ calls lines. calls ++ (Seat s ∷ map (λ asked. asked.call) (map forges lines))) e (sym (none_later (length sets) (length sets) 0 xs (omega arith) order));
}

forge_step : (r : ℕ) (sets : List ℕ) (xs : List Line) (y : Line) (c : Call) (come : List Call) → Under r sets xs come → y.round ≡ r → (forges y).call ≡ c → Under r sets (xs ++ y ∷ []) (come ++ c ∷ [])
forge_step r sets xs y c come u e is =
    let number = u.number in
    let same : rounds_from 0 u.before (xs ++ y ∷ []) ≡ rounds_from 0 u.before xs = one_line_more 0 u.before xs y (omega (arith, number, e)) in
    let more : forge_calls r (xs ++ y ∷ []) ≡ forge_calls r xs ++ c ∷ [] =
    ap (λ lines. map (λ asked. asked.call) (map forges lines)) (own_round r xs y e)
    ∙ ap (map (λ asked. asked.call)) (map-append forges (lines_of r xs) (y ∷ []))
    ∙ map-append (λ asked. asked.call) (map forges (lines_of r xs)) (forges y ∷ [])
    ∙ ap (λ d. forge_calls r xs ++ d ∷ []) is in
    record {
      before = u.before;
      set = u.set;
      sets_are = u.sets_are;
      number = u.number;
      come_are = ap (λ calls. calls ++ c ∷ []) u.come_are
          ∙ append_assoc (calls_by u.before xs) (Seat u.set ∷ forge_calls r xs) (c ∷ [])
          ∙ sym (ap₂ (λ asked calls. map (λ a. a.call) asked ++ (Seat u.set ∷ calls)) same more);
    }

close_step : (r : ℕ) (sets : List ℕ) (xs : List Line) (come : List Call) → Under r sets xs come → come ++ Close ∷ [] ≡ calls_by sets xs
close_step r sets xs come u =
    let last : map (λ asked. asked.call) (round_of r u.set xs) ≡ Seat u.set ∷ (forge_calls r xs ++ Close ∷ []) = ap (λ calls. Seat u.set ∷ calls) (map-append (λ asked. asked.call) (map forges (lines_of r xs)) (in_round r Close ∷ [])) in
    ap (λ calls. calls ++ Close ∷ []) u.come_are
    ∙ append_assoc (calls_by u.before xs) (Seat u.set ∷ forge_calls r xs) (Close ∷ [])
    ∙ ap (λ calls. calls_by u.before xs ++ calls) (sym last)
    ∙ sym (map-append (λ asked. asked.call) (rounds_from 0 u.before xs) (round_of r u.set xs))
    ∙ ap (λ q. map (λ asked. asked.call) (rounds_from 0 u.before xs ++ round_of q u.set xs)) (u.number ∙ omega arith)
    ∙ sym (ap (map (λ asked. asked.call)) (one_set_more 0 u.before u.set xs))
    ∙ sym (ap (λ all. calls_by all xs) u.sets_are)

first_decision : (sets : List ℕ) (xs : List Line) (i : ℕ) (come : List Call) → come ≡ calls_by sets xs → Behind sets xs (come ++ Decision i ∷ [])
first_decision sets xs i come e = record { asked = i ∷ []; come_are = ap (λ calls. calls ++ Decision i ∷ []) e }

next_decision : (sets : List ℕ) (xs : List Line) (i : ℕ) (come : List Call) → Behind sets xs come → Behind sets xs (come ++ Decision i ∷ [])
next_decision sets xs i come b = record {
  asked = b.asked ++ i ∷ [];
  come_are = ap (λ calls. calls ++ Decision i ∷ []) b.come_are ∙ append_assoc (calls_by sets xs) (map Decision b.asked) (Decision i ∷ []) ∙ ap (λ calls. calls_by sets xs ++ calls) (sym (map-append Decision b.asked (i ∷ [])));
}

pub unless_ok : {X : Type 0} (line : ℕ) (misfit : Option Misfit) (r : Result X Unfit) (x : X) → unless line misfit r ≡ Ok x → (misfit ≡ None) × (r ≡ Ok x)
unless_ok line None r x e = (refl, e)
unless_ok line (Some m) r x e = absurd (grind (arith, e))

neither : (a b : Option Misfit) → option_or a b ≡ None → (a ≡ None) × (b ≡ None)
neither None b e = (refl, e)
neither (Some m) b e = absurd (grind (arith, e))

module _ (kind : ValueKind) where
  -- a draft after calls: its lines are in order, their cells keep the rule, and its calls are those that came
  pub record Made (d : Draft) (come : List Call) : Type 0 where
    pub order : InOrder (length d.sets) 0 (map (lined kind) d.forged)
    pub lawful : list_all (λ f. keeps_cell (rules_of kind) f.cell) d.forged ≡ true
    is : Come d.stage d.sets (map (lined kind) d.forged) come

  pub nothing_made : Made no_rounds []
  unfolding Come
  nothing_made = record { order = tt; lawful = refl; is = refl }

  forged_more : (sets : List ℕ) (forged : List Forged) (r : ℕ) (x : Forged) (c : Call) (come : List Call) → x.round ≡ r → (forges (lined kind x)).call ≡ c → keeps_cell (rules_of kind) x.cell ≡ true
      → Made (record { stage = Seated r; sets = sets; forged = forged }) come → Made (record { stage = Seated r; sets = sets; forged = forged ++ x ∷ [] }) (come ++ c ∷ [])
  unfolding Come
  forged_more sets forged r x c come e is keep m =
      let all = sym (map-append (lined kind) forged (x ∷ [])) in
      let u : Under r sets (map (lined kind) forged) come = m.is in
      let count : length sets ≡ r + 1 = ap length u.sets_are ∙ length-append u.before (u.set ∷ []) ∙ ap (λ k. k + 1) (sym u.number) in
      record {
        order = subst (λ xs. InOrder (length sets) 0 xs) all (one_more (length sets) 0 (map (lined kind) forged) (lined kind x) m.order (count ∙ ap (λ k. k + 1) (sym e)) (omega arith));
        lawful = list_all-append (λ f. keeps_cell (rules_of kind) f.cell) forged (x ∷ []) ∙ and_from _ _ m.lawful (and_from _ _ keep refl);
        is = subst (λ xs. Under r sets xs (come ++ c ∷ [])) all (forge_step r sets (map (lined kind) forged) (lined kind x) c come u e is);
      }

  step : (stage : Stage) (sets : List ℕ) (forged : List Forged) (call : Call) (come : List Call) → Made (record { stage = stage; sets = sets; forged = forged }) come → turn_misfit stage call ≡ None → keeps (rules_of kind) call ≡ true
      → Made (added (record { stage = stage; sets = sets; forged = forged }) call) (come ++ call ∷ [])
  unfolding Come
  step stage sets forged (Open n t proposals initial) come m e keep = absurd (grind (arith, e))
  step Rounds sets forged (Seat s) come m e keep = record {
    order = subst (λ k. InOrder k 0 (map (lined kind) forged)) (sym (length-append sets (s ∷ []))) (wider (length sets) 0 (map (lined kind) forged) m.order);
    lawful = m.lawful;
    is = seat_step sets s (map (lined kind) forged) come m.is m.order;
  }
  step (Seated r) sets forged (Seat s) come m e keep = absurd (grind (arith, e))
  step Decisions sets forged (Seat s) come m e keep = absurd (grind (arith, e))
  step Rounds sets forged (Forge sender receiver column cell) come m e keep = absurd (grind (arith, e))
  step (Seated r) sets forged (Forge sender receiver column cell) come m e keep =
      let x : Forged = record { round = r; sender = sender; receiver = receiver; column = column; cell = cell } in
      forged_more sets forged r x (Forge sender receiver column cell) come refl (ap (λ c. Forge sender receiver column c) (cell_again kind x)) keep m
  step Decisions sets forged (Forge sender receiver column cell) come m e keep = absurd (grind (arith, e))
  step Rounds sets forged Close come m e keep = absurd (grind (arith, e))
  step (Seated r) sets forged Close come m e keep = record { order = m.order; lawful = m.lawful; is = close_step r sets (map (lined kind) forged) come m.is }
  step Decisions sets forged Close come m e keep = absurd (grind (arith, e))
  step Rounds sets forged (Decision i) come m e keep = record { order = m.order; lawful = m.lawful; is = first_decision sets (map (lined kind) forged) i come m.is }
  step (Seated r) sets forged (Decision i) come m e keep = absurd (grind (arith, e))
  step Decisions sets forged (Decision i) come m e keep = record { order = m.order; lawful = m.lawful; is = next_decision sets (map (lined kind) forged) i come m.is }

  -- a draft at the end of a script
  pub record Ends (n : ℕ) (d : Draft) (come : List Call) : Type 0 where
    pub made : Made d come
    pub room : room_misfit kind n d ≡ None
    pub behind : Behind d.sets (map (lined kind) d.forged) come

  at_end : (stage : Stage) (sets : List ℕ) (xs : List Line) (come : List Call) → end_misfit stage ≡ None → Come stage sets xs come → Behind sets xs come
  unfolding Come
  at_end Rounds sets xs come e c = record { asked = []; come_are = c ∙ sym (append-nil (calls_by sets xs)) }
  at_end (Seated r) sets xs come e c = absurd (grind (arith, e))
  at_end Decisions sets xs come e c = c

  pub drafted_ends : (n : ℕ) (rest : List Numbered) (last : ℕ) (d end : Draft) (come : List Call) → Made d come → room_misfit kind n d ≡ None → list_all (keeps (rules_of kind)) (map (λ line. line.call) rest) ≡ true
      → drafted kind n last d rest ≡ Ok end → Ends n end (come ++ map (λ line. line.call) rest)
  drafted_ends n [] last d end come m room keep e =
      let parts = unless_ok last (end_misfit d.stage) (Ok d) end e in
      let same : d ≡ end = cc in
      subst (λ calls. Ends n end calls) (sym (append-nil come)) (subst (λ x. Ends n x come) same (record { made = m; room = room; behind = at_end d.stage d.sets (map (lined kind) d.forged) come parts.0 m.is }))
  drafted_ends n (line ∷ rest) last d end come m room keep e =
      let parts = unless_ok line.number (misfit_of kind n d line.call) (drafted kind n line.number (added d line.call) rest) end e in
      let place = neither (place_misfit line.call) (option_or (turn_misfit d.stage line.call) (room_misfit kind n (added d line.call))) parts.0 in
      let turn = neither (turn_misfit d.stage line.call) (room_misfit kind n (added d line.call)) place.1 in
      let keeps = and_parts _ _ keep in
      subst (λ calls. Ends n end calls) (append_assoc come (line.call ∷ []) (map (λ line. line.call) rest))
      (drafted_ends n rest line.number (added d line.call) end (come ++ line.call ∷ []) (step d.stage d.sets d.forged line.call come m turn.0 keeps.0) turn.1 keeps.1 parts.1)
