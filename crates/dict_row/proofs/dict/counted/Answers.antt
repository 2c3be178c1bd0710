use Rattle.std.proofs.Common.{◌≡◌, suc, ◌+◌, [], ◌∷◌, ◌++◌, ap, sym, ◌∙◌, arith}
use Rattle.std.specs.List.{range_with_len}
use Rattle.dict_row.proofs.OwnKeys.{range_more}
use Rattle.dict_row.proofs.dict.counted.Goals as goal

pub loop-key-preserved : goal.loop-key-preserved
loop-key-preserved c =
    let key = c.loop-key.key in
    let same : key ≡ 0 + key = omega arith in
    let next : suc key ≡ key + 1 = omega arith in
    c.in_ok-push.ensures.added ∙ ap (λ keys. keys ++ key ∷ []) c.loop-key.invariant
    ∙ ap (λ k. range_with_len 0 key ++ k ∷ []) same ∙ sym (range_more 0 key)
    ∙ ap (range_with_len 0) next
