-- How long the text of a value is, and what a file of a kind comes to.
use Rattle.std.proofs.Common.{◌≡◌, ◌≤◌, ◌∙◌, ℕ, arith, refl, sym, ap, subst, List, [], ◌∷◌, length, sum, Ok, Err, Result, decimal}
use Rattle.std.specs.Prelude.{⊤}
use Rattle.std.proofs.lemmas.List.{length-append}
use Rattle.std.proofs.lemmas.Fmt.{length-decimal-le}
use Rattle.std.proofs.lemmas.Bool.Decides.{nat_tests}
use Rattle.values.specs.Rules.{text}
use Rattle.values.specs.Setpoints.{setpoint_rules}
use Rattle.values.specs.Sheets.{sheet_rules}
use Rattle.run_file.specs.declared.headers.ValueKind.{ValueKind}
use Rattle.run_file.specs.declared.headers.Header.{Header}
use Rattle.run_file.specs.declared.headers.ValueKind.TheVariants.{Setpoint, Sheet}
use Rattle.values.specs.declared.buffers.Buffer.{Buffer}
use Rattle.run_file.specs.declared.stops.Stop.{Stop}
use Rattle.run_file.specs.Headers.{header_of, model_of}
use Rattle.run_file.specs.Listings.{rules_of, Cells, cells_of, cells_used, of_kind, with_header, used_with}
use Rattle.run_file.specs.Promises.{IsVote, ListingLaw}
use Rattle.run_file.specs.InCode.{Fits, Becomes}

digits_of : (x : ℕ) → x ≤ 1000 → length (decimal x) ≤ 4
digits_of x most = length-decimal-le 4 x (omega arith) (omega (arith, most)) (omega (arith, most))

pub setpoint_fits : Fits setpoint_rules 19
setpoint_fits [] e = absurd (grind arith)
setpoint_fits (x ∷ []) e = let most : x ≤ 1000 = grind (arith, nat_tests) in omega (arith, digits_of x most)
setpoint_fits (x ∷ y ∷ rest) e = absurd (grind arith)

pub sheet_fits : Fits sheet_rules 19
sheet_fits [] e = absurd (grind (arith, nat_tests))
sheet_fits (a ∷ []) e = absurd (grind (arith, nat_tests))
sheet_fits (a ∷ b ∷ []) e = absurd (grind (arith, nat_tests))
sheet_fits (a ∷ b ∷ c ∷ []) e = absurd (grind (arith, nat_tests))
sheet_fits (a ∷ b ∷ c ∷ d ∷ []) e =
    let most : sum (a ∷ b ∷ c ∷ d ∷ []) ≤ 1000 = grind (arith, nat_tests) in
    let da = digits_of a (omega (arith, most)) in
    let db = digits_of b (omega (arith, most)) in
    let dc = digits_of c (omega (arith, most)) in
    let dd = digits_of d (omega (arith, most)) in
    omega (arith, da, db, dc, dd, length-append (decimal a) (32 ∷ text (b ∷ c ∷ d ∷ [])), length-append (decimal b) (32 ∷ text (c ∷ d ∷ [])), length-append (decimal c) (32 ∷ decimal d))
sheet_fits (a ∷ b ∷ c ∷ d ∷ f ∷ rest) e = absurd (grind (arith, nat_tests))

-- a file by the kind of its values
pub becomes_of : (c : Cells) (bytes : List ℕ) (h : Header) (kind : ValueKind) (result : Result ⊤ Stop) (before after : Buffer) → header_of bytes ≡ Ok h → h.kind ≡ kind
    → Becomes (IsVote (rules_of kind) h bytes) (of_kind c bytes h kind) result before after → Becomes (ListingLaw bytes) (with_header c bytes (header_of bytes)) result before after
becomes_of c bytes h kind (Ok x) before after read is b =
    let same : with_header c bytes (header_of bytes) ≡ of_kind c bytes h kind = ap (with_header c bytes) read ∙ ap (of_kind c bytes h) is in
    (b.0, same ∙ b.1, b.2, b.3, b.4, λ run. (h, read, subst (λ kind. IsVote (rules_of kind) h bytes b.0) (sym is) b.5))
becomes_of c bytes h kind (Err stop) before after read is b =
    let same : with_header c bytes (header_of bytes) ≡ of_kind c bytes h kind = ap (with_header c bytes) read ∙ ap (of_kind c bytes h) is in
    (same ∙ b.0, b.1)

pub used_by : (c : Cells) (bytes : List ℕ) (h : Header) (kind : ValueKind) → header_of bytes ≡ Ok h → h.kind ≡ kind → used_with c bytes kind (header_of bytes) ≡ cells_used (rules_of kind) (model_of h) (cells_of c kind) h bytes
used_by c bytes h Setpoint read e = rw (read, e) refl
used_by c bytes h Sheet read e = rw (read, e) refl
