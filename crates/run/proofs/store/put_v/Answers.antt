use Rattle.std.proofs.Common.{refl, sym, ap, ◌∙◌, List, Option, arith}
use Rattle.run.specs.Stores.{Store}
use Rattle.run.proofs.Parts.{store_is}
use Rattle.run.proofs.store.put_v.Goals as goal

pub returns : goal.returns
returns g c =
    let n = c.args.n in
    let cut1 = c.split_at_mut-rest in
    let cut2 = c.split_at_mut-rest-2 in
    let cut3 = c.split_at_mut-v in
    let cut4 = c.split_at_mut in
    let forged = cut1.result.0.now in
    let rows = cut2.result.0.now in
    let decisions = cut4.result.0.now in
    let behind = cut4.result.1.now in
    let put = c.copy_from_slice.new.self in
    let was = store_is n forged rows cut3.result.0.now decisions behind cut1.ensures.value cut2.ensures.value cut3.ensures.value cut4.ensures.value cut1.ensures.front_len cut2.ensures.front_len cut3.ensures.front_len cut4.ensures.front_len in
    let is = store_is n forged rows put decisions behind refl refl refl refl cut1.ensures.front_len cut2.ensures.front_len (omega arith) cut4.ensures.front_len in
    is
    ∙ ap (λ (v : List (Option g.row.R.Denot)). record { forged = forged; rows = rows; v = v; decisions = decisions }) c.copy_from_slice.ensures.after
    ∙ sym (ap (λ (s : Store g.row.R.Denot). record s { v = c.args.new.now }) was)
