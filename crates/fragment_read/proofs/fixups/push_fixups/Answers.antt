use Rattle.std.proofs.Common.{◌≡◌, ℕ, ◌+◌, ◌/◌, ◌<◌, ◌∷◌, ◌++◌, [], List, Option, Some, true}
use Rattle.std.proofs.Common.{◌^◌, refl, sym, ap, ◌∙◌, subst, append_assoc, arith, get_or}
use Rattle.std.specs.List.{cons_option}
use Rattle.std.proofs.lemmas.Bool.{and_parts}
use Rattle.std.proofs.lemmas.List.{append-nil}
use Rattle.elf_words.specs.declared.rela.Rela.{Rela}
use Rattle.elf_words.specs.declared.shdr.Shdr.{Shdr}
use Rattle.omos_model.specs.ElfFields.{r_info, r_offset, sh_info}
use Rattle.omos_model.specs.ElfFaults.{entry_count, is_aim_of}
use Rattle.omos_model.specs.FragmentOf.{aim_of, fixup_of, section_piece}
use Rattle.omos_model.specs.declared.fragment.Fixup.{Fixup}
use Rattle.fragment_read.proofs.Counted.{made, made_more}
use Rattle.fragment_read.specs.inside.Gathered.{gathered}
use Rattle.fragment_read.specs.inside.Numbered.{fixup_with}
use Rattle.fragment_read.proofs.Made.{fixup_is, no_fixup, read_is, type_is}
use Rattle.fragment_read.proofs.Right.{kept_right}
use Rattle.fragment_read.proofs.RightEntries.{right_entry}
use Rattle.fragment_read.proofs.fixups.push_fixups.Goals as goal
use Rattle.fragment_read.proofs.fixups.push_fixups.Goals.{in-Some+in_ok-push_fixup, in_default}

pub push_fixup-requires-clause-there : goal.push_fixup-requires-clause-there
push_fixup-requires-clause-there c =
    let file = c.args.tables.now in
    let i = c.args.i in
    let j = c.loop-j.j in
    let r = c.requires in
    let e = c.read_at-entry.result in
    let read = read_is file c.file-file.result.now i j c.entries_at-at.result e
    c.read_at-entry.ensures c.file-file.ensures.bytes c.entries_at-at.ensures.place in
    let less : j < entry_count file i = rw c.entries-j-end.ensures at c.loop-j-test.true in
    let entry = right_entry file i j c.in-Some.kind r.right r.there r.used less
    (type_is file i j e (Some c.in-Some.kind) read (sym c.in-Some.ensures)) in
    let info : e.r_info ≡ r_info file i j = ap (λ (x : Rela). x.r_info) read in
    subst (λ (n : ℕ). is_aim_of file (n / 4294967296) ≡ true) (sym info) entry.aim

pub push_fixup-requires-clause-near : goal.push_fixup-requires-clause-near
push_fixup-requires-clause-near c =
    let file = c.args.tables.now in
    let i = c.args.i in
    let j = c.loop-j.j in
    let r = c.requires in
    let e = c.read_at-entry.result in
    let read = read_is file c.file-file.result.now i j c.entries_at-at.result e
    c.read_at-entry.ensures c.file-file.ensures.bytes c.entries_at-at.ensures.place in
    let less : j < entry_count file i = rw c.entries-j-end.ensures at c.loop-j-test.true in
    let entry = right_entry file i j c.in-Some.kind r.right r.there r.used less
    (type_is file i j e (Some c.in-Some.kind) read (sym c.in-Some.ensures)) in
    let offset : e.r_offset ≡ r_offset file i j = ap (λ (x : Rela). x.r_offset) read in
    omega (arith, offset, entry.offset)

pub loop-j-preserved : goal.loop-j-preserved
loop-j-preserved c =
    let file = c.args.tables.now in
    let f = fixup_of file in
    let i = c.args.i in
    let j = c.loop-j.j in
    let r = c.requires in
    let e = c.read_at-entry.result in
    let read = read_is file c.file-file.result.now i j c.entries_at-at.result e
    c.read_at-entry.ensures c.file-file.ensures.bytes c.entries_at-at.ensures.place in
    let info : c.header.result.sh_info ≡ sh_info file i =
    ap (λ (s : Shdr). s.sh_info) c.header.ensures in
    let kept = (and_parts _ _ r.used).1 in
    let piece = get_or c.args.numbers.now c.header.result.sh_info 0 in
    let target : piece ≡ section_piece file (sh_info file i) =
    ap (λ (n : ℕ). get_or c.args.numbers.now n 0) info
    ∙ r.numbered.each (sh_info file i) (kept_right file (sh_info file i) r.right kept).there in
    let before = gathered file c.args.fields.now c.args.used.now in
    let so_far = made f i j in
    let more : before ++ so_far ++ cons_option (f (i, j)) [] ≡ before ++ made f i (j + 1) =
    append_assoc before so_far (cons_option (f (i, j)) [])
    ∙ ap (λ (xs : List Fixup). before ++ xs) (sym (made_more f i j)) in
    elim c.match-kind_of.branch [
      | in-Some+in_ok-push_fixup w ↦
          let aim = aim_of file (e.r_info / 2 ^ 32) in
          let here = fixup_with piece e.r_offset e.r_addend aim w.in-Some.kind in
          let is = fixup_is file i j e w.in-Some.kind piece aim read target
          (sym w.in-Some.ensures) refl in
          record {
            right = rw (w.fields-is, w.used-is) w.in_ok-push_fixup.ensures.right;
            more = rw (w.fields-is, w.used-is) (w.in_ok-push_fixup.ensures.more
                ∙ ap (λ (xs : List Fixup). xs ++ here ∷ []) c.loop-j.invariant.more
                ∙ ap (λ (o : Option Fixup). before ++ so_far ++ cons_option o []) (sym is)
                ∙ more);
          }
      | in_default w ↦
          let is = no_fixup file i j e read (sym w.in_default.ensures) in
          record {
            right = rw (w.fields-is, w.used-is) c.loop-j.invariant.right;
            more = rw (w.fields-is, w.used-is) (c.loop-j.invariant.more
                ∙ sym (append-nil (before ++ so_far))
                ∙ ap (λ (o : Option Fixup). before ++ so_far ++ cons_option o []) (sym is)
                ∙ more);
          }
    ]
