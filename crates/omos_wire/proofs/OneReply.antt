-- The reply of a frame is made of its bytes, so it is one.
use Rattle.std.proofs.Common.{◌≡◌, ℕ, zero, suc, ◌≤◌, ◌==◌, Bool, true, false}
use Rattle.std.proofs.Common.{if◌then◌else◌, List, [], ◌∷◌, ◌++◌, length, drop, refl, sym, ap, ◌∙◌}
use Rattle.std.proofs.Common.{arith}
use Rattle.std.specs.Prelude.{slice_index}
use Rattle.std.specs.List.{AllByRecursion, flat_map}
use Rattle.hub_store.specs.declared.counts.Counts.{Counts as Totals}
use Rattle.omos_base.specs.Endian.{little_bytes}
use Rattle.omos_base.specs.Fields.{number_at}
use Rattle.refusal_lines.specs.Codes.{Field, Wide}
use Rattle.omos_wire.specs.Answer.{Answer, HasValues, IsReplyFrame, Published, Image, Refused}
use Rattle.omos_wire.specs.Answer.{Places, Counts, Flushed, Bye, NoMemory, Full, KeptFull, flag}
use Rattle.omos_wire.specs.Answer.{payload, reply_frame, span_bytes, IsCodedSpan}
use Rattle.omos_wire.specs.inside.Reading.{Form}
use Rattle.omos_wire.specs.inside.Reading as form
use Rattle.omos_wire.specs.declared.span.Span.{Span}
use Rattle.omos_wire.proofs.Fitting.{behind, kind_in, length-spans, payload_is}
use Rattle.omos_wire.proofs.OneReason.{parse, four_back, eight_back, parse_back, reason_at}
use Rattle.omos_wire.proofs.OneReason.{reason_back}

-- ---- replies, by their kind and what stands behind it

abbrev spans_in : ℕ → List ℕ → List Span
spans_in zero bytes = []
spans_in (suc n) bytes =
    (record { base = number_at 8 0 bytes; pages = number_at 4 0 (drop 8 bytes) })
    ∷ spans_in n (drop 12 bytes)

spans_back : (ss : List Span) → AllByRecursion IsCodedSpan ss
    → spans_in (length ss) (flat_map span_bytes ss) ≡ ss
spans_back [] h = refl
spans_back (s ∷ ss) h =
    let rest : List ℕ = flat_map span_bytes ss in
    let more : List Span = spans_in (length ss) rest in
    ap (λ (n : ℕ). (record { base = n; pages = number_at 4 0 (little_bytes 4 s.pages ++ rest) })
    ∷ more) (eight_back s.base (little_bytes 4 s.pages ++ rest) h.0.0)
    ∙ ap (λ (n : ℕ). (record { base = s.base; pages = n }) ∷ more) (four_back s.pages rest h.0.1)
    ∙ ap (λ (t : List Span). s ∷ t) (spans_back ss h.1)

abbrev nine : List Form
nine = form.Wide ∷ form.Wide ∷ form.Wide ∷ form.Wide ∷ form.Wide ∷ form.Wide ∷ form.Wide ∷ form.Wide
    ∷ form.Wide ∷ []

abbrev totals_in : List Field → Totals
totals_in (Wide a ∷ Wide b ∷ Wide c ∷ Wide d ∷ Wide e ∷ Wide f ∷ Wide g ∷ Wide h ∷ Wide i ∷ []) =
    record {
      version = a;
      paths = b;
      placements = c;
      asked = d;
      hits = e;
      stored = f;
      evicted = g;
      held = h;
      steps = i;
    }
totals_in _ = record {
  version = 0;
  paths = 0;
  placements = 0;
  asked = 0;
  hits = 0;
  stored = 0;
  evicted = 0;
  held = 0;
  steps = 0;
}

abbrev widths : Totals → List Field
widths n =
    Wide n.version ∷ Wide n.paths ∷ Wide n.placements ∷ Wide n.asked ∷ Wide n.hits ∷ Wide n.stored
    ∷ Wide n.evicted ∷ Wide n.held ∷ Wide n.steps ∷ []

abbrev reply_at : ℕ → List ℕ → Answer
reply_at kind bytes =
    if kind == 129 then Published (number_at 8 0 bytes)
    else if kind == 130 then Image (number_at 8 0 bytes) (number_at 8 0 (drop 8 bytes))
    (drop 16 bytes)
    else if kind == 131 then Refused (reason_at (slice_index bytes 0) (drop 1 bytes))
    else if kind == 132 then Places (spans_in (number_at 4 0 bytes) (drop 4 bytes))
    else if kind == 133 then Counts (totals_in (parse nine bytes))
    else if kind == 134 then Flushed (slice_index bytes 0 == 1)
    else if kind == 135 then Bye
    else if kind == 136 then NoMemory
    else if kind == 137 then Full
    else KeptFull

flag_back : (held : Bool) → (flag held == 1) ≡ held
flag_back true = refl
flag_back false = refl

reply_back : (a : Answer) → HasValues a → length (payload a) ≤ 16777216
    → reply_at (kind_in a) (behind a) ≡ a
reply_back (Published v) h few = ap Published (eight_back v [] h)
reply_back (Image v base bytes) h few =
    ap (λ (n : ℕ). Image n (number_at 8 0 (little_bytes 8 base ++ bytes)) bytes)
    (eight_back v (little_bytes 8 base ++ bytes) h.0)
    ∙ ap (λ (n : ℕ). Image v n bytes) (eight_back base bytes h.1)
reply_back (Refused x) h few = ap Refused (reason_back x h)
reply_back (Places ss) h few =
    let bytes : List ℕ = flat_map span_bytes ss in
    ap (λ (n : ℕ). Places (spans_in n bytes))
    (four_back (length ss) bytes (omega (arith, few, length-spans ss)))
    ∙ ap Places (spans_back ss h)
reply_back (Counts n) h few =
    ap (λ (fs : List Field). Counts (totals_in fs)) (parse_back (widths n) h)
reply_back (Flushed held) h few = ap Flushed (flag_back held)
reply_back Bye h few = refl
reply_back NoMemory h few = refl
reply_back Full h few = refl
reply_back KeptFull h few = refl

payload_in : (a : Answer) → drop 4 (reply_frame a) ≡ payload a
unfolding reply_frame
payload_in a = refl

-- a frame is of one reply
pub one_reply : (bytes : List ℕ) (a b : Answer) → IsReplyFrame bytes a → IsReplyFrame bytes b
    → a ≡ b
one_reply bytes a b ha hb =
    let same : payload a ≡ payload b =
    sym (payload_in a) ∙ ap (drop 4) (sym ha.frame ∙ hb.frame) ∙ payload_in b in
    let kinds : kind_in a ≡ kind_in b =
    ap (λ (s : List ℕ). slice_index s 0) (sym (payload_is a) ∙ same ∙ payload_is b) in
    sym (reply_back a ha.values ha.size)
    ∙ ap (λ (k : ℕ). reply_at k (behind a)) kinds
    ∙ ap (λ (s : List ℕ). reply_at (kind_in b) (drop 1 s)) same
    ∙ reply_back b hb.values hb.size
