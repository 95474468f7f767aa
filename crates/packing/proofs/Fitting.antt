-- Calls of the right shape fit, one after another.
use Rattle.std.proofs.Common.{◌≡◌, ℕ, suc, ◌+◌, ◌≤◌, List, [], ◌∷◌, ◌++◌, map, length, None, Some, Ok, Err, Result, refl, ap, ap₂, sym, ◌∙◌, subst, append_assoc, length-append, arith}
use Rattle.std.specs.Prelude.{if◌then◌else◌, ◌||◌, IfErr}
use Rattle.std.specs.Option.{option_or}
use Rattle.std.specs.List.{flat_map, AllByRecursion}
use Rattle.std.proofs.lemmas.List.Concat.{flat_map-cons}
use Rattle.std.proofs.lemmas.Bool.Decides.{nat_tests}
use Rattle.protocol.specs.Machine.{Call, Open, Seat, Close, Decision}
use Rattle.script.specs.Scripts.{rules_of}
use Rattle.script.specs.declared.scripts.House.{House}
use Rattle.script.specs.declared.scripts.Script.{Script}
use Rattle.script.specs.declared.scripts.ValueKind.{ValueKind}
use Rattle.packing.specs.declared.drafts.Stage.{Stage}
use Rattle.packing.specs.declared.drafts.Stage.TheVariants.{Rounds, Seated, Decisions}
use Rattle.packing.specs.declared.misfits.Misfit.TheVariants.{LargeNumber}
use Rattle.packing.specs.Bytes.{Forged, Opened, file_bytes, file_end}
use Rattle.packing.specs.Packed.{Draft, Numbered, numbered, no_rounds, is_large, turn_misfit, place_misfit, room_misfit, misfit_of, end_misfit, added, drafted, unless, openable, opened_by, file_of, with_open, of_lines, cells_misfit, packed}
use Rattle.packing.specs.declared.misfits.PackError.{PackError}
use Rattle.packing.specs.declared.misfits.PackError.TheVariants as because
use Rattle.packing.specs.InCode.{IsMade}
use Rattle.packing.proofs.Law.{no_misfit, same_calls}
use Rattle.packing.specs.Promises.{Forging, Round, forge_call, round_calls, FitsBytes, forging_count, Packable, IsPackable}

-- a file of fewer rounds and lines is shorter
no_longer : (w n a b c d : ℕ) → a ≤ c → b ≤ d → file_end w n a b ≤ file_end w n c d
no_longer w n a b c d l m = grind (arith, l, m)

told_place : (f : Forging) → FitsBytes f → place_misfit (forge_call f) ≡ None
told_place f h = by f.sender f.receiver f.column h.0 h.1 h.2
  where
    by : (s r c : ℕ) → s ≤ 255 → r ≤ 255 → c ≤ 255 → (if is_large s || is_large r || is_large c then Some LargeNumber else None) ≡ None
    by s r c h i j = grind (arith, nat_tests, h, i, j)

module _ (kind : ValueKind) (n : ℕ) where
  abbrev w : ℕ
  w = (rules_of kind).width

  -- calls that fit a draft one after another, to an end
  Fits : Draft → List Call → Type 0
  Fits d [] = end_misfit d.stage ≡ None
  Fits d (call ∷ calls) = (misfit_of kind n d call ≡ None) × Fits (added d call) calls

  fit_drafted : (rest : List Numbered) (last : ℕ) (d : Draft) → Fits d (map (λ line. line.call) rest) → (end : Draft) × (drafted kind n last d rest ≡ Ok end)
  unfolding Fits
  fit_drafted [] last d h = (d, ap (λ m. unless last m (Ok d)) h)
  fit_drafted (line ∷ rest) last d h =
      let next = fit_drafted rest line.number (added d line.call) h.1 in
      (next.0, ap (λ m. unless line.number m (drafted kind n line.number (added d line.call) rest)) h.0 ∙ next.1)

  can_decide : (stage : Stage) (i : ℕ) → end_misfit stage ≡ None → turn_misfit stage (Decision i) ≡ None
  can_decide Rounds i e = refl
  can_decide (Seated r) i e = absurd (grind (arith, e))
  can_decide Decisions i e = refl

  fits_room : (sets : List ℕ) (forged : List Forged) (stage : Stage) → file_end w n (length sets) (length forged) ≤ 65535 → room_misfit kind n (record { stage = stage; sets = sets; forged = forged }) ≡ None
  fits_room sets forged stage h = no_misfit (file_end w n (length sets) (length forged)) h

  decisions_fit : (is : List ℕ) (stage : Stage) (sets : List ℕ) (forged : List Forged) → end_misfit stage ≡ None → file_end w n (length sets) (length forged) ≤ 65535 → Fits (record { stage = stage; sets = sets; forged = forged }) (map Decision is)
  unfolding Fits
  decisions_fit [] stage sets forged e h = e
  decisions_fit (i ∷ is) stage sets forged e h = (ap₂ (λ a b. option_or a b) (can_decide stage i e) (fits_room sets forged Decisions h), decisions_fit is Decisions sets forged refl h)

  forges_fit : (fs : List Forging) (r : ℕ) (sets : List ℕ) (forged : List Forged) (calls : List Call) → AllByRecursion FitsBytes fs → file_end w n (length sets) (length forged + length fs) ≤ 65535
      → ((after : List Forged) → length after ≡ length forged + length fs → Fits (record { stage = Seated r; sets = sets; forged = after }) calls)
      → Fits (record { stage = Seated r; sets = sets; forged = forged }) (map forge_call fs ++ calls)
  unfolding Fits
  forges_fit [] r sets forged calls told h rest = rest forged (omega arith)
  forges_fit (f ∷ fs) r sets forged calls told h rest =
      let x : Forged = record { round = r; sender = f.sender; receiver = f.receiver; column = f.column; cell = f.cell } in
      let count = length-append forged (x ∷ []) in
      let here = no_longer w n (length sets) (length (forged ++ x ∷ [])) (length sets) (length forged + suc (length fs)) (omega arith) (omega (arith, count)) in
      let more = no_longer w n (length sets) (length (forged ++ x ∷ []) + length fs) (length sets) (length forged + suc (length fs)) (omega arith) (omega (arith, count)) in (
        ap₂ (λ a b. option_or a b) (told_place f told.0) (fits_room sets (forged ++ x ∷ []) (Seated r) (omega (arith, here, h))),
        forges_fit fs r sets (forged ++ x ∷ []) calls told.1 (omega (arith, more, h)) (λ after e. rest after (omega (arith, e, count))),
      )

  rounds_fit : (rounds : List Round) (sets : List ℕ) (forged : List Forged) (calls : List Call) → AllByRecursion (λ r. AllByRecursion FitsBytes r.forgings) rounds → file_end w n (length sets + length rounds) (length forged + forging_count rounds) ≤ 65535
      → ((seats : List ℕ) (after : List Forged) → length seats ≡ length sets + length rounds → length after ≡ length forged + forging_count rounds → Fits (record { stage = Rounds; sets = seats; forged = after }) calls)
      → Fits (record { stage = Rounds; sets = sets; forged = forged }) (flat_map round_calls rounds ++ calls)
  unfolding Fits
  rounds_fit [] sets forged calls told h rest = rest sets forged (omega arith) (omega arith)
  rounds_fit (r ∷ rounds) sets forged calls told h rest =
      let seats = sets ++ r.set ∷ [] in
      let count : length seats ≡ length sets + 1 = length-append sets (r.set ∷ []) in
      let behind = flat_map round_calls rounds ++ calls in
      let shape : flat_map round_calls (r ∷ rounds) ++ calls ≡ Seat r.set ∷ (map forge_call r.forgings ++ (Close ∷ behind)) =
      ap (λ cs. cs ++ calls) (flat_map-cons round_calls r rounds)
      ∙ append_assoc (round_calls r) (flat_map round_calls rounds) calls
      ∙ ap (λ cs. Seat r.set ∷ cs) (append_assoc (map forge_call r.forgings) (Close ∷ []) behind) in
      let all = file_end w n (length sets + suc (length rounds)) (length forged + (length r.forgings + forging_count rounds)) in
      let seat = no_longer w n (length seats) (length forged) (length sets + suc (length rounds)) (length forged + (length r.forgings + forging_count rounds)) (omega (arith, count)) (omega arith) in
      let forge = no_longer w n (length seats) (length forged + length r.forgings) (length sets + suc (length rounds)) (length forged + (length r.forgings + forging_count rounds)) (omega (arith, count)) (omega arith) in
      subst (λ cs. Fits (record { stage = Rounds; sets = sets; forged = forged }) cs) (sym shape) (
        fits_room seats forged (Seated (length sets)) (omega (arith, seat, h)),
        forges_fit r.forgings (length sets) seats forged (Close ∷ behind) told.0 (omega (arith, forge, h)) (λ after e.
            let close = no_longer w n (length seats) (length after) (length sets + suc (length rounds)) (length forged + (length r.forgings + forging_count rounds)) (omega (arith, count)) (omega (arith, e)) in
            let more = no_longer w n (length seats + length rounds) (length after + forging_count rounds) (length sets + suc (length rounds)) (length forged + (length r.forgings + forging_count rounds)) (omega (arith, count)) (omega (arith, e)) in (
              fits_room seats after Rounds (omega (arith, close, h)),
              rounds_fit rounds seats after calls told.1 (omega (arith, more, h)) (λ last end l m. rest last end (omega (arith, l, count)) (omega (arith, m, e))),
            )),
      )

-- a file of as many rounds and lines is as long
as_long : (w n a b c d : ℕ) → a ≡ 0 + c → b ≡ 0 + d → file_end w n c d ≤ 65535 → file_end w n a b ≤ 65535
as_long w n a b c d e f h = subst (λ x. file_end w n x b ≤ 65535) (sym (e ∙ omega arith)) (subst (λ y. file_end w n c y ≤ 65535) (sym (f ∙ omega arith)) h)

enough : (cells : ℕ) → 4688 ≤ cells → cells_misfit cells ≡ None
enough cells h = grind (arith, nat_tests, h)

can_open : (o : Opened) → length o.proposals ≡ o.n → o.n ≤ 255 → o.t ≤ 255 → openable o ≡ Ok o
can_open o e h i = grind (arith, nat_tests, e, h, i)

module _ (house : House) where
  has_file : (line : ℕ) (o : Opened) (rest : List Numbered) (d : Draft) → drafted house.kind o.n line no_rounds rest ≡ Ok d → (bytes : List ℕ) × (with_open house line (Ok o) rest ≡ Ok bytes)
  has_file line o rest d e = (file_bytes house o d.sets d.forged, ap (file_of house o) e)

  behind_open : (line : ℕ) (call : Call) (o : Opened) (rest : List Numbered) (bytes : List ℕ) → opened_by call ≡ Ok o → with_open house line (Ok o) rest ≡ Ok bytes → with_open house line (opened_by call) rest ≡ Ok bytes
  behind_open line call o rest bytes e f = ap (λ r. with_open house line r rest) e ∙ f

  fits_lines : (end : ℕ) (lines : List Numbered) → Packable house (map (λ line. line.call) lines) → (bytes : List ℕ) × (of_lines house end lines ≡ Ok bytes)
  fits_lines end [] p = absurd (let e = p.calls_are in grind (arith, e))
  fits_lines end (first ∷ rest) p =
      let o = p.block in
      let calls = p.calls_are in
      let call : first.call ≡ Open o.n o.t o.proposals o.initial = cc in
      let behind : map (λ line. line.call) rest ≡ flat_map round_calls p.rounds ++ map Decision p.decisions = cc in
      let opens : opened_by first.call ≡ Ok o = ap opened_by call ∙ can_open o p.count p.small.0 p.small.1 in
      let r = length p.rounds in
      let l = forging_count p.rounds in
      let wide = (rules_of house.kind).width in
      let fits = rounds_fit house.kind o.n p.rounds [] [] (map Decision p.decisions) p.told (as_long wide o.n (0 + r) (0 + l) r l refl refl p.room) (λ seats after e f. decisions_fit house.kind o.n p.decisions Rounds seats after refl (as_long wide o.n (length seats) (length after) r l e f p.room)) in
      let draft = fit_drafted house.kind o.n rest first.number no_rounds (subst (λ cs. Fits house.kind o.n no_rounds cs) (sym behind) fits) in
      let file = has_file first.number o rest draft.0 draft.1 in
      (file.0, behind_open first.number first.call o rest file.0 opens file.1)

has_packed : (script : Script) → IsPackable script → (bytes : List ℕ) × (packed script ≡ Ok bytes)
has_packed script p =
    let file = fits_lines script.house script.end (map numbered script.lines.items) (subst (λ calls. Packable script.house calls) (sym (same_calls script.lines.items)) p.1) in
    (file.0, ap (λ m. unless script.cells_line m (of_lines script.house script.end (map numbered script.lines.items))) (enough script.cells p.0) ∙ file.1)

pub made_fits : {T : Type 0} (means : T → List ℕ) (script : Script) (r : Result T PackError) → IsMade means (packed script) r → IfErr r (λ why. IsPackable script → why ≡ because.NoMemory)
made_fits means script (Ok x) m = tt
made_fits means script (Err (because.Unfit unfit)) m = λ p. absurd (let e = (has_packed script p).1 in grind (arith, m, e))
made_fits means script (Err because.NoMemory) m = λ p. refl
