-- A packed file is in order, and asks for the calls of its script.
use Rattle.std.proofs.Common.{◌≡◌, ℕ, suc, ◌+◌, ◌*◌, ◌<◌, ◌≤◌, Bool, true, false, List, [], ◌∷◌, ◌++◌, map, length, drop, None, Some, Ok, ◌==◌, nat_le, nat_lt, refl, ap, ap₂, sym, ◌∙◌, append-nil, length-append, arith}
use Rattle.std.specs.Prelude.{sum, not, ◌||◌}
use Rattle.std.specs.List.{flat_map, list_all}
use Rattle.std.specs.Option.{ok_or}
use Rattle.std.specs.Result.{result_err}
use Rattle.std.proofs.lemmas.Bool.{cond-true, cond-false, and_parts, and_from, eq-eqb}
use Rattle.std.proofs.lemmas.Bool.Decides.{nat_tests}
use Rattle.values.specs.Rules.{Rules, numbers, reads}
use Rattle.values.specs.Cells.{Held}
use Rattle.values.specs.declared.refusals.Refusal.TheVariants.{ForgeryLine, Layout, HeaderCode}
use Rattle.models.specs.declared.standards.Standard.{Standard}
use Rattle.models.specs.Standards.{with_code, code_of}
use Rattle.protocol.specs.Machine.{Open, ◌then◌, ◌when◌}
use Rattle.run_file.specs.declared.headers.ValueKind as file
use Rattle.run_file.specs.declared.headers.Header.{Header}
use Rattle.run_file.specs.Files.{pieces, number_at, laid_out, proposals, initial_set, round_sets, forgery_lines, proposals_refusal}
use Rattle.run_file.specs.Headers.{header_of, coded, fields, kind_with, stamps_with}
use Rattle.run_file.specs.Lines.{line, all_zero, line_refusal, lines_refusal}
use Rattle.run_file.specs.Listings.{file_refusal, calls_of}
use Rattle.run_file.specs.Votes.{rounds_from}
use Rattle.script.specs.Scripts.{rules_of, keeps_cell}
use Rattle.script.specs.declared.scripts.House.{House}
use Rattle.script.specs.declared.scripts.ValueKind.{ValueKind}
use Rattle.script.specs.declared.scripts.ValueKind.TheVariants.{Setpoint, Sheet}
use Rattle.packing.specs.Bytes.{Forged, Opened, two_bytes, value_bytes, blank, cell_bytes, line_bytes, kind_byte, stamps_byte, header_bytes, file_bytes, sets_start, lines_start, file_end}
use Rattle.packing.proofs.Parting.{low_high, numbers_again, all_numbers_again, length_value, Wide, length_joined, pieces_again, drop_more, number_here, sets_wide, sets_again, lined, lines_again, file_kind, kind_again, model_again, stamps_again}
use Rattle.packing.proofs.Turning.{InOrder, calls_by}

-- the width of a value that keeps its rule, and of a line
one_number : (xs : List ℕ) → (rules_of Setpoint).allowed xs ≡ true → length (value_bytes xs) ≡ 2
one_number [] h = absurd (grind (arith, h))
one_number (x ∷ []) h = refl
one_number (x ∷ y ∷ rest) h = absurd (grind (arith, h))

four_numbers : (xs : List ℕ) → (rules_of Sheet).allowed xs ≡ true → length (value_bytes xs) ≡ 8
four_numbers xs h =
    let four = (and_parts (length xs == 4) (nat_le (sum xs) 1000) h).0 in
    let count : length xs ≡ 4 = grind (arith, nat_tests, four) in
    length_value xs ∙ ap (λ n. 2 * n) count

value_wide : (kind : ValueKind) (xs : List ℕ) → (rules_of kind).allowed xs ≡ true → length (value_bytes xs) ≡ (rules_of kind).width
value_wide Setpoint xs h = one_number xs h
value_wide Sheet xs h = four_numbers xs h

blank_wide : (kind : ValueKind) → length (value_bytes (blank kind)) ≡ (rules_of kind).width
blank_wide Setpoint = refl
blank_wide Sheet = refl

blank_zero : (kind : ValueKind) → all_zero (value_bytes (blank kind)) ≡ true
blank_zero Setpoint = refl
blank_zero Sheet = refl

cell_wide : (kind : ValueKind) (cell : Held) → keeps_cell (rules_of kind) cell ≡ true → length (cell_bytes kind cell) ≡ 1 + (rules_of kind).width
cell_wide kind None h = ap suc (blank_wide kind) ∙ omega arith
cell_wide kind (Some xs) h = ap suc (value_wide kind xs h) ∙ omega arith

values_wide : (kind : ValueKind) (xss : List (List ℕ)) → list_all (rules_of kind).allowed xss ≡ true → Wide value_bytes (rules_of kind).width xss
values_wide kind [] h = tt
values_wide kind (xs ∷ xss) h = let parts = and_parts _ _ h in (value_wide kind xs parts.0, values_wide kind xss parts.1)

lines_wide : (kind : ValueKind) (xs : List Forged) → list_all (λ f. keeps_cell (rules_of kind) f.cell) xs ≡ true → Wide (line_bytes kind) (6 + (rules_of kind).width) xs
lines_wide kind [] h = tt
lines_wide kind (x ∷ xs) h = let parts = and_parts _ _ h in let cell = cell_wide kind x.cell parts.0 in (omega (arith, cell), lines_wide kind xs parts.1)

-- neither the proposals nor the lines are refused
read_again : (kind : ValueKind) (xs : List ℕ) → (rules_of kind).allowed xs ≡ true → result_err (reads (rules_of kind) (value_bytes xs)) ≡ None
read_again kind xs h = ap result_err (cond-true _ _ _ (and_from _ _ (eq-eqb _ _ (value_wide kind xs h)) (ap (rules_of kind).allowed (numbers_again xs) ∙ h)))

proposals_kept : (kind : ValueKind) (xss : List (List ℕ)) → list_all (rules_of kind).allowed xss ≡ true → proposals_refusal (rules_of kind) (map value_bytes xss) ≡ None
proposals_kept kind [] h = refl
proposals_kept kind (xs ∷ xss) h = let parts = and_parts _ _ h in ap₂ (λ a b. a then b) (read_again kind xs parts.0) (proposals_kept kind xss parts.1)

right_line : (m last round : ℕ) → round < m → last ≤ round → (nat_le m round ≡ false) × (nat_lt round last ≡ false)
right_line m last round below after = (grind (arith, nat_tests, below), grind (arith, nat_tests, after))

line_kept : (kind : ValueKind) (m last round sender receiver column : ℕ) (cell : Held) → keeps_cell (rules_of kind) cell ≡ true → round < m → last ≤ round
    → let x : Forged = record { round = round; sender = sender; receiver = receiver; column = column; cell = cell } in line_refusal (rules_of kind) m last (lined kind x) ≡ None
line_kept kind m last round sender receiver column None h below after =
    let right = right_line m last round below after in
    ap₂ (λ a b. (ForgeryLine when (a || b || false || not (all_zero (value_bytes (blank kind))))) then None) right.0 right.1 ∙ ap (λ z. (ForgeryLine when not z) then None) (blank_zero kind)
line_kept kind m last round sender receiver column (Some xs) h below after =
    let right = right_line m last round below after in
    ap₂ (λ a b. (ForgeryLine when (a || b || false || false)) then result_err (reads (rules_of kind) (value_bytes xs))) right.0 right.1 ∙ read_again kind xs h

lines_kept : (kind : ValueKind) (m last : ℕ) (xs : List Forged) → list_all (λ f. keeps_cell (rules_of kind) f.cell) xs ≡ true → InOrder m last (map (lined kind) xs) → lines_refusal (rules_of kind) m last (map (lined kind) xs) ≡ None
lines_kept kind m last [] h order = refl
lines_kept kind m last (x ∷ xs) h order =
    let parts = and_parts _ _ h in
    ap₂ (λ a b. a then b) (line_kept kind m last x.round x.sender x.receiver x.column x.cell parts.0 order.0 order.1) (lines_kept kind m x.round xs parts.1 order.2)

-- the header by its codes
coded_by : (kb mb sb n t : ℕ) (rest : List ℕ) (kind : file.ValueKind) (model : Standard) (stamps : Bool) → kind_with kb ≡ Some kind → with_code mb ≡ Some model → stamps_with sb ≡ Some stamps
    → coded (kb ∷ mb ∷ sb ∷ n ∷ t ∷ 0 ∷ rest) ≡ Some (fields (kb ∷ mb ∷ sb ∷ n ∷ t ∷ 0 ∷ rest) kind model stamps)
coded_by kb mb sb n t rest kind model stamps e f g = rw (e, f, g)

-- a file whose block and rounds are as they are to be
module _ (house : House) (o : Opened) (sets : List ℕ) (forged : List Forged) where
  abbrev k : Rules
  k = rules_of house.kind

  pub record IsRight : Type 0 where
    pub count : length o.proposals ≡ o.n
    pub proposals_lawful : list_all k.allowed o.proposals ≡ true
    pub cells_lawful : list_all (λ f. keeps_cell k f.cell) forged ≡ true
    pub order : InOrder (length sets) 0 (map (lined house.kind) forged)
    pub room : file_end k.width o.n (length sets) (length forged) ≤ 65535

  abbrev bytes : List ℕ
  bytes = file_bytes house o sets forged

  abbrev header : List ℕ
  header = header_bytes house o.n o.t (length sets) (length forged)

  abbrev values : List ℕ
  values = flat_map value_bytes o.proposals

  abbrev lines : List ℕ
  lines = flat_map (line_bytes house.kind) forged

  abbrev pub the_header : Header
  the_header = record {
    kind = file_kind house.kind;
    model = house.base;
    stamps = not (house.stamps == 0);
    n = o.n;
    t = o.t;
    rounds = length sets;
    forgeries = length forged;
    proposals_at = 16;
    sets_at = sets_start k.width o.n;
    forgeries_at = lines_start k.width o.n (length sets);
  }

  module _ (is : IsRight) where
    values_are : length values ≡ o.n * k.width
    values_are = length_joined value_bytes k.width o.proposals (values_wide house.kind o.proposals is.proposals_lawful) ∙ ap (λ n. n * k.width) is.count

    lines_are : length lines ≡ length forged * (6 + k.width)
    lines_are = length_joined (line_bytes house.kind) (6 + k.width) forged (lines_wide house.kind forged is.cells_lawful)

    all_are : length bytes ≡ file_end k.width o.n (length sets) (length forged)
    all_are =
        length-append header (values ++ (value_bytes (o.initial ∷ sets) ++ lines))
        ∙ ap (λ l. 16 + l) (length-append values (value_bytes (o.initial ∷ sets) ++ lines) ∙ ap₂ (λ a b. a + b) values_are (length-append (value_bytes (o.initial ∷ sets)) lines ∙ ap₂ (λ a b. a + b) (length_value (o.initial ∷ sets)) lines_are))
        ∙ omega arith

    -- what stands behind the parts
    from_sets : drop (sets_start k.width o.n) bytes ≡ value_bytes (o.initial ∷ sets) ++ lines
    from_sets = drop_more bytes values (value_bytes (o.initial ∷ sets) ++ lines) 16 (o.n * k.width) (sets_start k.width o.n) refl values_are refl

    from_rounds : drop (sets_start k.width o.n + 2) bytes ≡ value_bytes sets ++ lines
    from_rounds = drop_more bytes (two_bytes o.initial) (value_bytes sets ++ lines) (sets_start k.width o.n) 2 (sets_start k.width o.n + 2) from_sets refl refl

    from_lines : drop (lines_start k.width o.n (length sets)) bytes ≡ lines
    from_lines = drop_more bytes (value_bytes sets) lines (sets_start k.width o.n + 2) (2 * length sets) (lines_start k.width o.n (length sets)) from_rounds (length_value sets) (omega arith)

    right_size : (nat_lt (length bytes) 16 || nat_lt 65535 (length bytes)) ≡ false
    right_size = sized (length bytes) (omega (arith, all_are)) (omega (arith, all_are, is.room))
      where
        sized : (l : ℕ) → 16 ≤ l → l ≤ 65535 → (nat_lt l 16 || nat_lt 65535 l) ≡ false
        sized l a b = grind (arith, nat_tests, a, b)

    fields_again : fields bytes (file_kind house.kind) house.base (not (house.stamps == 0)) ≡ the_header
    fields_again = simp low_high

    pub header_again : header_of bytes ≡ Ok the_header
    header_again = cond-false _ _ _ right_size ∙ ap (λ c. ok_or c HeaderCode) (coded_by (kind_byte house.kind) (code_of house.base) (stamps_byte house.stamps) o.n o.t (drop 6 bytes) (file_kind house.kind) house.base (not (house.stamps == 0)) (kind_again house.kind) (model_again house.base) (stamps_again house.stamps) ∙ ap Some fields_again)

    laid_again : laid_out k.width the_header bytes ≡ true
    laid_again = and_from _ _ (and_from _ _ (eq-eqb (sets_start k.width o.n) (sets_start k.width o.n) refl) (eq-eqb (lines_start k.width o.n (length sets)) (lines_start k.width o.n (length sets)) refl)) (eq-eqb (length bytes) (file_end k.width o.n (length sets) (length forged)) all_are)

    values_again : proposals k.width the_header bytes ≡ map value_bytes o.proposals
    values_again = ap (λ n. pieces k.width n (values ++ (value_bytes (o.initial ∷ sets) ++ lines))) (sym is.count) ∙ pieces_again value_bytes k.width o.proposals (value_bytes (o.initial ∷ sets) ++ lines) (values_wide house.kind o.proposals is.proposals_lawful)

    initial_again : initial_set k.width the_header bytes ≡ o.initial
    initial_again = number_here bytes (value_bytes sets ++ lines) (sets_start k.width o.n) o.initial from_sets

    rounds_again : round_sets k.width the_header bytes ≡ sets
    rounds_again = ap (λ bs. map (λ two. number_at two 0) (pieces 2 (length sets) bs)) from_rounds ∙ ap (map (λ two. number_at two 0)) (pieces_again two_bytes 2 sets lines (sets_wide sets)) ∙ sets_again sets

    forged_again : map line (forgery_lines k.width the_header bytes) ≡ map (lined house.kind) forged
    forged_again =
        ap (λ bs. map line (pieces (6 + k.width) (length forged) bs)) (from_lines ∙ sym (append-nil lines))
        ∙ ap (map line) (pieces_again (line_bytes house.kind) (6 + k.width) forged [] (lines_wide house.kind forged is.cells_lawful))
        ∙ lines_again house.kind forged

    pub not_refused : file_refusal k the_header bytes ≡ None
    not_refused =
        let proposals_fine : proposals_refusal k (proposals k.width the_header bytes) ≡ None = ap (proposals_refusal k) values_again ∙ proposals_kept house.kind o.proposals is.proposals_lawful in
        let lines_fine : lines_refusal k (length sets) 0 (map line (forgery_lines k.width the_header bytes)) ≡ None = ap (lines_refusal k (length sets) 0) forged_again ∙ lines_kept house.kind (length sets) 0 forged is.cells_lawful is.order in
        ap₂ (λ l r. (Layout when not l) then r) laid_again (ap₂ (λ a b. a then b) proposals_fine lines_fine)

    pub asked_again : map (λ asked. asked.call) (calls_of k the_header bytes) ≡ Open o.n o.t o.proposals o.initial ∷ calls_by sets (map (lined house.kind) forged)
    asked_again =
        ap₂ (λ c cs. c ∷ cs) (ap₂ (λ ps i. Open o.n o.t ps i) (ap (map numbers) values_again ∙ all_numbers_again o.proposals) initial_again) (ap₂ (λ ss ls. map (λ asked. asked.call) (rounds_from 0 ss ls)) rounds_again forged_again)
