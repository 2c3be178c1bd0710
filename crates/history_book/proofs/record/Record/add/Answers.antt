use Rattle.std.proofs.Common.{◌≡◌, rules, sym, ◌∙◌, ap, arith, [], ◌∷◌, ◌++◌, length, length-append}
use Rattle.std.proofs.lemmas.List.Sums.{sum_by_push}
use Rattle.history_book.specs.Briefs.{step_of, len_of, paths_len, steps_in}
use Rattle.history_book.specs.Published.{published}
use Rattle.history_book.specs.Tallied.{RecordParts, tally_with}
use Rattle.history_book.proofs.Briefs.{steps_push, same_tally}
use Rattle.history_book.proofs.Grow.{tally_push}
use Rattle.history_book.proofs.Published.{published_push}
use Rattle.history_book.proofs.record.Record.add.Goals as goal

pub invariant_of-self : goal.invariant_of-self
invariant_of-self c =
    let briefs = c.self.inside.briefs.items in
    let paths = c.self.inside.paths.items in
    let b = c.args.brief in
    let path = c.args.path.now in
    let steps = steps_in briefs paths in
    let pushed : c.push.new.self.items ≡ c.self.inside.briefs.items ++ c.args.brief ∷ [] =
    rw c.unwrap-2.ensures at c.push.ensures.items in
    let len = rw c.unwrap-2.ensures at c.push.ensures.len in
    let bytes : c.extend_from_slice.new.self.items ≡ c.self.inside.paths.items ++ c.args.path.now =
    rw c.unwrap.ensures at c.extend_from_slice.ensures.items in
    let more = rw c.unwrap.ensures at c.extend_from_slice.ensures.len in
    let grown : steps_in c.push.new.self.items c.extend_from_slice.new.self.items
    ≡ steps ++ step_of b path ∷ [] =
    rw (pushed, bytes) (steps_push briefs paths b path c.self.invariant.8 c.requires.len) in (
      rw grown (c.count.ensures.value ∙ same_tally c.self.inside.tally b [] path
          ∙ ap (λ t. tally_with t (step_of b path)) c.self.invariant.0
          ∙ sym (tally_push steps (step_of b path))),
      rw (len, ← c.len.ensures) c.count.ensures.small,
      search rules,
      search rules,
      rw (grown, c.push_key.ensures.keys, c.self.invariant.4)
          (ap (λ keys. published steps ++ keys) c.requires.key
          ∙ sym (published_push steps (step_of b path))),
      omega (arith, c.push_key.ensures.len, len, c.self.invariant.5),
      omega (arith, c.push_key.ensures.room, c.self.invariant.6),
      omega (
        arith,
        ap length grown,
        length-append steps (step_of b path ∷ []),
        len,
        c.self.invariant.7,
      ),
      omega (
        arith,
        ap length bytes,
        length-append paths path,
        ap paths_len pushed,
        sum_by_push len_of briefs b,
        c.self.invariant.8,
        c.requires.len,
      ),
      omega (arith, more, len, c.self.invariant.9, c.requires.short),
      omega (arith, c.extend_from_slice.ensures.capacity, c.self.invariant.10),
    )

pub returns-clause-steps : goal.returns-clause-steps
returns-clause-steps c =
    let pushed : c.push.new.self.items ≡ c.self.inside.briefs.items ++ c.args.brief ∷ [] =
    rw c.unwrap-2.ensures at c.push.ensures.items in
    let bytes : c.extend_from_slice.new.self.items ≡ c.self.inside.paths.items ++ c.args.path.now =
    rw c.unwrap.ensures at c.extend_from_slice.ensures.items in
    let step = step_of c.args.brief c.args.path.now in
    rw (pushed, bytes)
    (steps_push c.self.inside.briefs.items c.self.inside.paths.items c.args.brief
    c.args.path.now c.self.invariant.8 c.requires.len)
    ∙ ap (λ (r : RecordParts). r.steps ++ step ∷ []) c.self.view_is
