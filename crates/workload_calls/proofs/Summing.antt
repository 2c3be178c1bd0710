-- What replies say in all, as it is summed up from their frames.
use Rattle.std.proofs.Common.{◌≡◌, ℕ, ◌+◌, ◌-◌, ◌^◌, ◌<◌, ◌≤◌, false, cond, List, [], ◌∷◌, ◌++◌}
use Rattle.std.proofs.Common.{length, refl, sym, ap, subst, ◌∙◌, arith, append_assoc, length-append}
use Rattle.std.proofs.Common.{take, drop, Some, None, Ok, Err}
use Rattle.std.proofs.Math.Seq.{take-append_seam, drop-append_seam}
use Rattle.std.proofs.lemmas.List.Sums.{sum_by-cons}
use Rattle.std.specs.List.{AllByRecursion, flat_map}
use Rattle.std.specs.Prelude.{IfOk, Result, count_by, sum_by}
use Rattle.byteorder.specs.Numbers.{little_number-reads_back}
use Rattle.omos_base.specs.Endian.{little_bytes}
use Rattle.omos_base.specs.Fields.{number_at}
use Rattle.hub_store.specs.declared.counts.Counts.{Counts as Totals}
use Rattle.omos_wire.specs.Answer.{Answer, Published, Image, Refused, Places, Counts, Flushed, Bye}
use Rattle.omos_wire.specs.Answer.{NoMemory, Full, KeptFull, payload, reply_frame}
use Rattle.omos_wire.proofs.Fitting.{behind, payload_is}
use Rattle.workload_calls.specs.declared.replies.Figures.{Figures}
use Rattle.workload_calls.specs.declared.replies.Said.{Said}
use Rattle.workload_calls.specs.declared.replies.Said.TheVariants as said
use Rattle.workload_calls.specs.declared.replies.Sums.{Sums}
use Rattle.workload_calls.specs.Lines.{numbers_line, TellsFigures}
use Rattle.workload_calls.specs.Replies.{AreFigures, HadMemory, HasFigures, figures_at, figures_of}
use Rattle.workload_calls.specs.Replies.{first_figures, no_sums, replies_bytes, said_at, said_of}
use Rattle.workload_calls.specs.Replies.{sums_from, with_said}
use Rattle.workload_calls.specs.Replies.{IsReplyWithin, image_length, is_image_reply}

-- ---- one frame

-- the first frame's length, as its first four bytes say it
pub record Fronts (bytes : List ℕ) (reply : Answer) : Type 0 where
  pub said : 4 + number_at 4 0 bytes ≡ length (reply_frame reply)
  pub long : 5 ≤ length (reply_frame reply)
  pub there : length (reply_frame reply) ≤ length bytes

pub fronts : (bytes : List ℕ) (reply : Answer) (rest : List ℕ) → bytes ≡ reply_frame reply ++ rest
    → length bytes < 2 ^ 32 → Fronts bytes reply
unfolding reply_frame number_at
fronts bytes reply rest is few =
    let size = length (payload reply) in
    let whole : length (reply_frame reply) ≡ 4 + size =
    length-append (little_bytes 4 size) (payload reply) in
    let long : length bytes ≡ length (reply_frame reply) + length rest =
    ap length is ∙ length-append (reply_frame reply) rest in
    let cut : bytes ≡ little_bytes 4 size ++ (payload reply ++ rest) =
    is ∙ append_assoc (little_bytes 4 size) (payload reply) rest in
    let back = little_number-reads_back 4 size (payload reply ++ rest) (omega arith) in
    let read : number_at 4 0 bytes ≡ size = ap (number_at 4 0) cut ∙ back in
    let some : length (payload reply) ≡ 1 + length (behind reply) = ap length (payload_is reply)
    ∙ omega arith in
    record { said = omega arith; long = omega arith; there = omega arith }

same_figures : (f g : Figures) → f.version ≡ g.version → f.placements ≡ g.placements
    → f.hits ≡ g.hits → f.evicted ≡ g.evicted → f ≡ g
same_figures f g a b c d =
    ap (λ x. record f { version = x }) a
    ∙ ap (λ x. record f { version = g.version; placements = x }) b
    ∙ ap (λ x. record f { version = g.version; placements = g.placements; hits = x }) c
    ∙ ap (λ x. record f {
      version = g.version;
      placements = g.placements;
      hits = g.hits;
      evicted = x;
    }) d

pub figures_right : (n : Totals) → AreFigures (figures_of n)
    → figures_at (reply_frame (Counts n)) ≡ figures_of n
unfolding reply_frame number_at
figures_right n h =
    let version : number_at 8 5 (reply_frame (Counts n)) ≡ n.version =
    little_number-reads_back 8 n.version
    (flat_map (little_bytes 8)
    (n.paths ∷ n.placements ∷ n.asked ∷ n.hits ∷ n.stored ∷ n.evicted ∷ n.held ∷ n.steps ∷ []))
    (omega (arith, h.0)) in
    let placements : number_at 8 21 (reply_frame (Counts n)) ≡ n.placements =
    little_number-reads_back 8 n.placements
    (flat_map (little_bytes 8)
    (n.asked ∷ n.hits ∷ n.stored ∷ n.evicted ∷ n.held ∷ n.steps ∷ [])) (omega (arith, h.1)) in
    let hits : number_at 8 37 (reply_frame (Counts n)) ≡ n.hits =
    little_number-reads_back 8 n.hits
    (flat_map (little_bytes 8) (n.stored ∷ n.evicted ∷ n.held ∷ n.steps ∷ []))
    (omega (arith, h.2)) in
    let evicted : number_at 8 53 (reply_frame (Counts n)) ≡ n.evicted =
    little_number-reads_back 8 n.evicted (flat_map (little_bytes 8) (n.held ∷ n.steps ∷ []))
    (omega (arith, h.3)) in
    same_figures (figures_at (reply_frame (Counts n))) (figures_of n) version placements hits
    evicted

said_own : (reply : Answer) → HasFigures reply → said_at (reply_frame reply) ≡ said_of reply
unfolding reply_frame
said_own (Published v) h = refl
said_own (Image v b file) h = ap said.Image (omega arith)
said_own (Refused x) h = refl
said_own (Places spans) h = refl
said_own (Counts n) h = ap said.Counts (figures_right n h)
said_own (Flushed held) h = refl
said_own Bye h = refl
said_own NoMemory h = refl
said_own Full h = refl
said_own KeptFull h = refl

pub said_right : (reply : Answer) (frame : List ℕ) → frame ≡ reply_frame reply → HasFigures reply
    → said_at frame ≡ said_of reply
said_right reply frame is h = ap said_at is ∙ said_own reply h

-- ---- sums

one_image : (s : Sums) (a : Answer)
    → (with_said s (said_of a)).images ≡ s.images + cond (is_image_reply a) 1 0
one_image s (Image v b file) = refl
one_image s _ = omega arith

one_size : (s : Sums) (a : Answer) → (with_said s (said_of a)).bytes ≡ s.bytes + image_length a
one_size s (Image v b file) = refl
one_size s _ = omega arith

pub images_are : (s : Sums) (answers : List Answer)
    → (sums_from s answers).images ≡ s.images + count_by is_image_reply answers
images_are s [] = omega arith
images_are s (a ∷ answers) =
    omega (
      arith,
      images_are (with_said s (said_of a)) answers,
      one_image s a,
      sum_by-cons (λ x. cond (is_image_reply x) 1 0) a answers,
    )

pub sizes_are : (s : Sums) (answers : List Answer)
    → (sums_from s answers).bytes ≡ s.bytes + sum_by image_length answers
sizes_are s [] = omega arith
sizes_are s (a ∷ answers) =
    omega (
      arith,
      sizes_are (with_said s (said_of a)) answers,
      one_size s a,
      sum_by-cons image_length a answers,
    )

figures_stay : (s : Sums) (f : Figures) (answers : List Answer) → s.figures ≡ Some f
    → (sums_from s answers).figures ≡ Some f
figures_stay s f [] e = e
figures_stay s f (Counts n ∷ answers) e =
    figures_stay (with_said s (said_of (Counts n))) f answers (rw e refl)
figures_stay s f (a ∷ answers) e = figures_stay (with_said s (said_of a)) f answers e

pub figures_are : (s : Sums) (answers : List Answer) → s.figures ≡ None
    → (sums_from s answers).figures ≡ first_figures answers
figures_are s [] e = e
figures_are s (Counts n ∷ answers) e =
    figures_stay (with_said s (said_of (Counts n))) (figures_of n) answers (rw e refl)
figures_are s (a ∷ answers) e = figures_are (with_said s (said_of a)) answers e

pub memory_was : (s : Sums) (answers : List Answer) → (sums_from s answers).lacked ≡ false
    → (s.lacked ≡ false) × AllByRecursion HadMemory answers
memory_was s [] e = (e, tt)
memory_was s (NoMemory ∷ answers) e =
    let later = memory_was (with_said s (said_of NoMemory)) answers e in absurd (cc (later.0))
memory_was s (a ∷ answers) e =
    let later = memory_was (with_said s (said_of a)) answers e in (later.0, ((λ h. cc), later.1))

-- ---- the loop

-- the sums so far, and what they come to with those of the rest
pub record Reads (bytes rest : List ℕ) (sums : Sums) : Type 0 where
  pub images : sums.images + length rest ≤ length bytes
  pub sizes : sums.bytes + length rest ≤ length bytes
  pub comes : (answers : List Answer) → bytes ≡ replies_bytes answers
      → AllByRecursion HasFigures answers
      → (left : List Answer) × (rest ≡ replies_bytes left) × AllByRecursion HasFigures left
      × (sums_from sums left ≡ sums_from no_sums answers)

pub reads_first : (bytes : List ℕ) → Reads bytes bytes no_sums
reads_first bytes = record {
  images = omega arith;
  sizes = omega arith;
  comes = λ answers is h. (answers, is, h, refl);
}

-- the front is a frame of the first of the replies that are left
first_left : (rest frame after : List ℕ) (size : ℕ) (left : List Answer) → rest ≡ replies_bytes left
    → 5 ≤ size → size ≤ length rest
    → ((reply : Answer) (more : List ℕ) → rest ≡ reply_frame reply ++ more → length rest < 2 ^ 32
    → Some size ≡ Some (length (reply_frame reply)))
    → length rest < 2 ^ 32 → frame ≡ take size rest → after ≡ drop size rest
    → (reply : Answer) × (more : List Answer) × (left ≡ reply ∷ more) × (frame ≡ reply_frame reply)
    × (after ≡ replies_bytes more)
first_left rest frame after size [] is some fits front few f a =
    absurd (omega (arith, ap length is))
first_left rest frame after size (r ∷ more) is some fits front few f a =
    let same : size ≡ length (reply_frame r) = cc (front r (replies_bytes more) is few) in (
      r,
      more,
      refl,
      f ∙ ap (λ (n : ℕ). take n rest) same ∙ ap (take (length (reply_frame r))) is
          ∙ take-append_seam (reply_frame r) (replies_bytes more),
      a ∙ ap (λ (n : ℕ). drop n rest) same ∙ ap (drop (length (reply_frame r))) is
          ∙ drop-append_seam (reply_frame r) (replies_bytes more),
    )

one_more : (s : Sums) (what : Said) → (with_said s what).images ≤ s.images + 1
one_more s (said.Image size) = omega arith
one_more s (said.Counts f) = omega arith
one_more s said.NoMemory = omega arith
one_more s said.Other = omega arith

some_more : (s : Sums) (what : Said) (long : ℕ) → IsReplyWithin what long
    → (with_said s what).bytes ≤ s.bytes + long
some_more s (said.Image size) long h = omega (arith, h)
some_more s (said.Counts f) long h = omega arith
some_more s said.NoMemory long h = omega arith
some_more s said.Other long h = omega arith

-- one reply more
pub reads_more : (bytes rest frame after : List ℕ) (size : ℕ) (sums new : Sums) (what : Said)
    → Reads bytes rest sums → 5 ≤ size → size ≤ length rest
    → ((reply : Answer) (more : List ℕ) → rest ≡ reply_frame reply ++ more → length rest < 2 ^ 32
    → Some size ≡ Some (length (reply_frame reply)))
    → length bytes < 2 ^ 32 → frame ≡ take size rest → after ≡ drop size rest → length frame ≡ size
    → length after + size ≡ length rest
    → what ≡ said_at frame → IsReplyWithin what (length frame) → new ≡ with_said sums what
    → Reads bytes after new
reads_more bytes rest frame after size sums new what reads some fits front few f a long cut says
    within is = record {
      images = omega (arith, reads.images, ap (λ (s : Sums). s.images) is, one_more sums what);
      sizes = omega (
        arith,
        reads.sizes,
        ap (λ (s : Sums). s.bytes) is,
        some_more sums what (length frame) within,
      );
      comes = λ answers whole h.
          let come = reads.comes answers whole h in
          let first =
          first_left rest frame after size come.0 come.1 some fits front
          (omega (arith, reads.images)) f a in
          let figures : AllByRecursion HasFigures (first.0 ∷ first.1) =
          subst (AllByRecursion HasFigures) first.2 come.2 in
          let step : new ≡ with_said sums (said_of first.0) =
          is ∙ ap (with_said sums) (says ∙ said_right first.0 frame first.3 figures.0) in (
            first.1,
            first.4,
            figures.1,
            ap (λ (s : Sums). sums_from s first.1) step
                ∙ ap (sums_from sums) (sym first.2) ∙ come.3,
          );
    }

-- nothing is left, where no frame stands at the front
pub reads_done : (bytes rest : List ℕ) (sums : Sums) → Reads bytes rest sums
    → ((reply : Answer) (more : List ℕ) → rest ≡ reply_frame reply ++ more → ⊥)
    → (answers : List Answer) → bytes ≡ replies_bytes answers → AllByRecursion HasFigures answers
    → sums ≡ sums_from no_sums answers
reads_done bytes rest sums reads none answers whole h =
    let come = reads.comes answers whole h in
    done come.0 come.1 come.3 where
      done : (left : List Answer) → rest ≡ replies_bytes left
          → sums_from sums left ≡ sums_from no_sums answers → sums ≡ sums_from no_sums answers
      done [] is e = e
      done (r ∷ more) is e = absurd (none r (replies_bytes more) is)

-- ---- the line

tells : (n : ℕ) (s : Sums) (f : Figures) (line : List ℕ) (answers : List Answer)
    → s ≡ sums_from no_sums answers → s.figures ≡ Some f → s.lacked ≡ false
    → line ≡ numbers_line n s.images s.bytes f → TellsFigures n answers line
tells n s f line answers is has lacked made =
    let images : s.images ≡ count_by is_image_reply answers = ap (λ (t : Sums). t.images) is
    ∙ images_are no_sums answers ∙ omega arith in
    let sizes : s.bytes ≡ sum_by image_length answers = ap (λ (t : Sums). t.bytes) is
    ∙ sizes_are no_sums answers ∙ omega arith in
    record {
      had_memory = (memory_was no_sums answers (ap (λ (t : Sums). t.lacked) (sym is) ∙ lacked)).1;
      figures = f;
      counted = sym (figures_are no_sums answers refl) ∙ ap (λ (t : Sums). t.figures) (sym is)
          ∙ has;
      line_is = made ∙ ap (λ (k : ℕ). numbers_line n k s.bytes f) images
          ∙ ap (λ (k : ℕ). numbers_line n (count_by is_image_reply answers) k f) sizes;
    }

-- what is made of the sums of some bytes is the line of the replies that they are
pub tells_of : {E : Type 0} (n : ℕ) (s : Sums) (f : Figures) (bytes : List ℕ)
    (result : Result (List ℕ) E)
    → ((answers : List Answer) → bytes ≡ replies_bytes answers → AllByRecursion HasFigures answers
    → s ≡ sums_from no_sums answers)
    → s.figures ≡ Some f → s.lacked ≡ false
    → IfOk result (λ line. line ≡ numbers_line n s.images s.bytes f)
    → IfOk result (λ line. (answers : List Answer) → bytes ≡ replies_bytes answers
    → AllByRecursion HasFigures answers → TellsFigures n answers line)
tells_of n s f bytes (Ok line) read has lacked made =
    λ answers is fit. tells n s f line answers (read answers is fit) has lacked made
tells_of n s f bytes (Err x) read has lacked made = made
