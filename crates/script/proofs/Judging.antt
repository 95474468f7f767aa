-- Whether values keep their rule, figure by figure; and the lines of a script one by one.
use Rattle.std.proofs.Common.{◌≡◌, ℕ, Bool, true, List, [], ◌∷◌, ◌++◌, ◌&&◌, map, Some, None, Option, Result, Ok, Err, refl, sym, ap, ◌∙◌, arith}
use Rattle.std.specs.List.{list_all}
use Rattle.std.proofs.lemmas.Bool.{and_parts, and_from}
use Rattle.protocol.specs.Machine as machine
use Rattle.script.specs.declared.flaws.Expected.{Expected}
use Rattle.script.specs.declared.scripts.Line.{Line}
use Rattle.script.specs.declared.scripts.ValueKind.{ValueKind}
use Rattle.script.specs.Lines.{call_in}
use Rattle.script.specs.Statements.{written_call}
use Rattle.script.specs.Scripts.{Said, rules_of, keeps, kept, wrongly, at_line, call_of, call_at, calls_in}
use Rattle.script.specs.InCode.{call_of_line, KeepKnownRule}

pub all_mapped : {A B : Type 0} (p : B → Bool) (f : A → B) (xs : List A) → list_all (λ x. p (f x)) xs ≡ list_all p (map f xs)
all_mapped p f [] = refl
all_mapped p f (x ∷ xs) = ap (λ rest. p (f x) && rest) (all_mapped p f xs)

all_joined : {A : Type 0} (p : A → Bool) (xs ys : List A) → list_all p xs ≡ true → list_all p ys ≡ true → list_all p (xs ++ ys) ≡ true
all_joined p [] ys h g = g
all_joined p (x ∷ xs) ys h g = and_from _ _ (and_parts _ _ h).0 (all_joined p xs ys (and_parts _ _ h).1 g)

-- a call that is not faulty keeps the rule of its kind
kept_call : (kind : ValueKind) (number : ℕ) (r : Result machine.Call Expected) → list_all (λ c. keeps (rules_of kind) c.1) (call_of number (at_line number (wrongly r (kept (Some kind))))) ≡ true
kept_call kind number (Err what) = refl
kept_call kind number (Ok call) = grind arith

kept_calls : (kind : ValueKind) (said : List Said) → list_all (λ c. keeps (rules_of kind) c.1) (calls_in (Some kind) said) ≡ true
kept_calls kind [] = refl
kept_calls kind (x ∷ said) = all_joined (λ c. keeps (rules_of kind) c.1) (call_of x.number (call_at (Some kind) x)) (calls_in (Some kind) said) (kept_call kind x.number (call_in x.words)) (kept_calls kind said)

kept_lines : (kind : ValueKind) (said : List Said) (lines : List Line) → map call_of_line lines ≡ calls_in (Some kind) said
    → list_all (keeps (rules_of kind)) (map (λ line. written_call line.statement) lines) ≡ true
kept_lines kind said lines e =
    sym (all_mapped (keeps (rules_of kind)) (λ line. written_call line.statement) lines) ∙ all_mapped (λ c. keeps (rules_of kind) c.1) call_of_line lines
    ∙ ap (list_all (λ c. keeps (rules_of kind) c.1)) e ∙ kept_calls kind said

pub kept_known : (kind : Option ValueKind) (said : List Said) (lines : List Line) → map call_of_line lines ≡ calls_in kind said → KeepKnownRule kind lines
kept_known None said lines e = tt
kept_known (Some kind) said lines e = kept_lines kind said lines e
