-- What is packed asks for the calls of its script.
use Rattle.std.proofs.Common.{◌≡◌, ℕ, ◌≤◌, Bool, true, false, List, [], ◌∷◌, ◌++◌, map, length, None, Some, Ok, Err, Result, ◌==◌, nat_lt, refl, ap, ap₂, sym, ◌∙◌, subst, arith}
use Rattle.std.specs.Prelude.{if◌then◌else◌, not, ◌||◌, IfOk}
use Rattle.std.specs.List.{list_all}
use Rattle.std.proofs.lemmas.Bool.{and_parts}
use Rattle.std.proofs.lemmas.Bool.Decides.{nat_tests}
use Rattle.protocol.specs.Machine.{Call, Open, Seat, Forge, Close, Decision}
use Rattle.run_file.specs.Listings as file
use Rattle.script.specs.Scripts.{rules_of, keeps}
use Rattle.script.specs.Statements.{written_call}
use Rattle.script.specs.declared.scripts.House.{House}
use Rattle.script.specs.declared.scripts.Line.{Line}
use Rattle.script.specs.declared.scripts.Script.{Script}
use Rattle.script.specs.declared.scripts.ValueKind.{ValueKind}
use Rattle.script.specs.declared.scripts.ValueKind.TheVariants.{Setpoint, Sheet}
use Rattle.packing.specs.declared.misfits.Misfit.{Misfit}
use Rattle.packing.specs.declared.misfits.Misfit.TheVariants.{ProposalCount, LargeNumber, NoRoom}
use Rattle.packing.specs.declared.misfits.PackError.{PackError}
use Rattle.packing.specs.declared.misfits.Unfit.{Unfit}
use Rattle.packing.specs.Bytes.{Opened, file_bytes, file_end}
use Rattle.packing.specs.Packed.{Draft, Numbered, numbered, no_rounds, is_large, openable, opened_by, drafted, file_of, with_open, of_lines, room_misfit, cells_misfit, packed}
use Rattle.packing.specs.Promises.{AsksFor, AsksForScript}
use Rattle.packing.specs.InCode.{IsMade}
use Rattle.packing.proofs.Parting.{file_kind}
use Rattle.packing.proofs.Turning.{nothing_made, Ends, drafted_ends, unless_ok}
use Rattle.packing.proofs.Asking.{IsRight, the_header, header_again, not_refused, asked_again}

-- a block that a run file can open
pub record IsOpen (call : Call) (o : Opened) : Type 0 where
  pub call_is : call ≡ Open o.n o.t o.proposals o.initial
  pub count : length o.proposals ≡ o.n
  pub small : o.n ≤ 255

by_tests : (a b : Bool) (o p : Opened) → (if not a then Err ProposalCount else if b then Err LargeNumber else Ok o) ≡ Ok p → (a ≡ true) × (b ≡ false) × (o ≡ p)
by_tests true false o p e = (refl, refl, cc)
by_tests true true o p e = absurd (grind (arith, e))
by_tests false b o p e = absurd (grind (arith, e))

by_parts : (n t initial : ℕ) (proposals : List (List ℕ)) (p : Opened) → openable (record { n = n; t = t; initial = initial; proposals = proposals }) ≡ Ok p → IsOpen (Open n t proposals initial) p
by_parts n t initial proposals p e =
    let o : Opened = record { n = n; t = t; initial = initial; proposals = proposals } in
    let parts = by_tests (length proposals == n) (is_large n || is_large t) o p e in
    let same = parts.0 in
    let small = parts.1 in
    subst (λ q. IsOpen (Open n t proposals initial) q) parts.2 (record { call_is = refl; count = grind (arith, nat_tests, same); small = grind (arith, nat_tests, small) })

is_open : (call : Call) (o : Opened) → opened_by call ≡ Ok o → IsOpen call o
is_open (Open n t proposals initial) o e = by_parts n t initial proposals o e
is_open (Seat set) o e = absurd (grind (arith, e))
is_open (Forge sender receiver column cell) o e = absurd (grind (arith, e))
is_open Close o e = absurd (grind (arith, e))
is_open (Decision controller) o e = absurd (grind (arith, e))

-- room for a file
has_room : (l : ℕ) → (if nat_lt 65535 l then Some NoRoom else None) ≡ None → l ≤ 65535
has_room l e = grind (arith, nat_tests, e)

pub no_misfit : (l : ℕ) → l ≤ 65535 → (if nat_lt 65535 l then Some NoRoom else None) ≡ None
no_misfit l h = grind (arith, nat_tests, h)

small_block : (kind : ValueKind) (n : ℕ) → n ≤ 255 → room_misfit kind n no_rounds ≡ None
small_block Setpoint n h = no_misfit (file_end 2 n 0 0) (omega arith)
small_block Sheet n h = no_misfit (file_end 8 n 0 0) (omega arith)

same_rules : (kind : ValueKind) → file.rules_of (file_kind kind) ≡ rules_of kind
same_rules Setpoint = refl
same_rules Sheet = refl

module _ (house : House) where
  -- a file of an open and of rounds asks for the calls that they came by
  asks_by : (call : Call) (rest : List Call) (o : Opened) (d : Draft) → IsOpen call o → Ends house.kind o.n d rest → keeps (rules_of house.kind) call ≡ true → AsksFor house (call ∷ rest) (file_bytes house o d.sets d.forged)
  asks_by call rest o d is ends keep =
      let right : IsRight house o d.sets d.forged = record {
        count = is.count;
        proposals_lawful = subst (λ c. keeps (rules_of house.kind) c ≡ true) is.call_is keep;
        cells_lawful = ends.made.lawful;
        order = ends.made.order;
        room = has_room (file_end (rules_of house.kind).width o.n (length d.sets) (length d.forged)) ends.room;
      } in
      record {
        h = the_header house o d.sets d.forged;
        decisions = ends.behind.asked;
        read = header_again house o d.sets d.forged right;
        names = record { kind = same_rules house.kind; model = refl; stamps = refl };
        in_order = not_refused house o d.sets d.forged right;
        calls_are = ap₂ (λ c cs. c ∷ cs) is.call_is ends.behind.come_are ∙ sym (ap (λ cs. cs ++ map Decision ends.behind.asked) (asked_again house o d.sets d.forged right));
      }

  asks_drafted : (call : Call) (line : ℕ) (o : Opened) (rest : List Numbered) (bytes : List ℕ) (r : Result Draft Unfit) → IsOpen call o → keeps (rules_of house.kind) call ≡ true → list_all (keeps (rules_of house.kind)) (map (λ line. line.call) rest) ≡ true
      → drafted house.kind o.n line no_rounds rest ≡ r → file_of house o r ≡ Ok bytes → AsksFor house (call ∷ map (λ line. line.call) rest) bytes
  asks_drafted call line o rest bytes (Ok d) is keep keeps e f =
      let same : file_bytes house o d.sets d.forged ≡ bytes = cc in
      subst (λ bs. AsksFor house (call ∷ map (λ line. line.call) rest) bs) same
      (asks_by call (map (λ line. line.call) rest) o d is (drafted_ends house.kind o.n rest line no_rounds d [] (nothing_made house.kind) (small_block house.kind o.n is.small) keeps e) keep)
  asks_drafted call line o rest bytes (Err why) is keep keeps e f = absurd (grind (arith, f))

  asks_opened : (line : ℕ) (call : Call) (rest : List Numbered) (bytes : List ℕ) (r : Result Opened Misfit) → keeps (rules_of house.kind) call ≡ true → list_all (keeps (rules_of house.kind)) (map (λ line. line.call) rest) ≡ true
      → opened_by call ≡ r → with_open house line r rest ≡ Ok bytes → AsksFor house (call ∷ map (λ line. line.call) rest) bytes
  asks_opened line call rest bytes (Ok o) keep keeps e f = asks_drafted call line o rest bytes (drafted house.kind o.n line no_rounds rest) (is_open call o e) keep keeps refl f
  asks_opened line call rest bytes (Err misfit) keep keeps e f = absurd (grind (arith, f))

  asks_lines : (end : ℕ) (lines : List Numbered) (bytes : List ℕ) → list_all (keeps (rules_of house.kind)) (map (λ line. line.call) lines) ≡ true → of_lines house end lines ≡ Ok bytes → AsksFor house (map (λ line. line.call) lines) bytes
  asks_lines end [] bytes keep e = absurd (grind (arith, e))
  asks_lines end (first ∷ rest) bytes keep e =
      let parts = and_parts _ _ keep in
      asks_opened first.number first.call rest bytes (opened_by first.call) parts.0 parts.1 refl e

pub same_calls : (lines : List Line) → map (λ line. line.call) (map numbered lines) ≡ map (λ line. written_call line.statement) lines
same_calls [] = refl
same_calls (line ∷ lines) = ap (λ calls. written_call line.statement ∷ calls) (same_calls lines)

pub asks_for : (script : Script) (bytes : List ℕ) → packed script ≡ Ok bytes → AsksForScript script bytes
asks_for script bytes e keep =
    let parts = unless_ok script.cells_line (cells_misfit script.cells) (of_lines script.house script.end (map numbered script.lines.items)) bytes e in
    let same = same_calls script.lines.items in
    subst (λ calls. AsksFor script.house calls bytes) same (asks_lines script.house script.end (map numbered script.lines.items) bytes (subst (λ calls. list_all (keeps (rules_of script.house.kind)) calls ≡ true) (sym same) keep) parts.1)

pub made_asks : {T : Type 0} (means : T → List ℕ) (script : Script) (r : Result T PackError) → IsMade means (packed script) r → IfOk r (λ x. AsksForScript script (means x))
made_asks means script (Ok x) m = asks_for script (means x) m
made_asks means script (Err why) m = tt
