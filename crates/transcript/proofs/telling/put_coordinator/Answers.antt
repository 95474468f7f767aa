use Rattle.std.proofs.Common.{◌++◌, ap, ◌∙◌, codes, decimal, string_bytes}
use Rattle.std.proofs.lemmas.Result.{IfOk-weaker}
use Rattle.transcript.proofs.telling.put_coordinator.Goals as goal

pub returns : goal.returns
returns c = IfOk-weaker c.put_named.result _ _ (λ _ e. e ∙ ap (λ who. string_bytes c.args.out.now ++ (codes ", coordinator " ++ decimal who)) c.coordinator.ensures) c.put_named.ensures
