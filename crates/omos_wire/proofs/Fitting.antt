-- What a reply's frame has at its places.
use Rattle.std.proofs.Common.{◌≡◌, ℕ, ◌+◌, ◌-◌, ◌*◌, ◌^◌, ◌<◌, ◌≤◌, Bool, true, false, List, []}
use Rattle.std.proofs.Common.{◌∷◌, ◌++◌, length, take, drop, refl, sym, ap, subst, ◌∙◌, arith}
use Rattle.std.proofs.Common.{length-append, length-drop, inl, inr, Ok, Err}
use Rattle.std.specs.Prelude.{Result, map, slice_index, slice_range}
use Rattle.std.specs.List.{AllByRecursion, flat_map}
use Rattle.std.proofs.Math.Seq.{take-append_seam, drop-append_seam}
use Rattle.byteorder.specs.Numbers.{little_number-reads_back}
use Rattle.omos_base.specs.Endian.{little_bytes}
use Rattle.omos_base.specs.Fields.{number_at}
use Rattle.omos_base.specs.Paths.{IsPath}
use Rattle.omos_base.specs.SymNames.{IsSymName}
use Rattle.omos_base.specs.declared.path_name.PathFault.{PathFault}
use Rattle.omos_base.specs.declared.path_name.PathFault.TheVariants as path
use Rattle.omos_model.specs.declared.refusal.BpFault.{BpFault}
use Rattle.omos_model.specs.declared.refusal.BpFault.TheVariants as text
use Rattle.omos_model.specs.declared.refusal.ObjectFault.{ObjectFault}
use Rattle.omos_model.specs.declared.refusal.ObjectFault.TheVariants as object
use Rattle.omos_model.specs.declared.refusal.Refusal.{Refusal}
use Rattle.omos_model.specs.declared.refusal.Refusal.TheVariants as link
use Rattle.omos_wire.specs.Answer.{Answer, HasValues, IsReplyFrame, Published, Image, Refused}
use Rattle.omos_wire.specs.Answer.{Places, Counts, Flushed, Bye, NoMemory, Full, KeptFull, flag}
use Rattle.omos_wire.specs.Answer.{payload, reply_frame, span_bytes}
use Rattle.refusal_lines.specs.Codes.{IsField}
use Rattle.omos_wire.specs.Fielded.{field_bytes}
use Rattle.refusal_lines.specs.Codes.{Field, Number, Wide, Path, Symbol, link_row, object_row}
use Rattle.refusal_lines.specs.Codes.{path_row, row_of, text_row}
use Rattle.omos_wire.specs.Fielded.{field}
use Rattle.omos_wire.specs.inside.Reading.{FitsAny, FitsCode, FitsForms, FitsShape, IsReply}
use Rattle.omos_wire.specs.inside.Reading.{form_of, link_forms, object_forms, path_forms, shape_at}
use Rattle.omos_wire.specs.inside.Reading.{text_forms, text_size, IsTextField}
use Rattle.refusal_lines.specs.declared.refused.Refused.{Refused as Reason}
use Rattle.refusal_lines.specs.declared.refused.Refused.TheVariants as code
use Rattle.omos_wire.specs.declared.span.Span.{Span}
use Rattle.omos_base.specs.Fault.{MatchFault}
use Rattle.omos_base.specs.declared.fault.Fault.{Fault}
use Rattle.omos_base.specs.declared.fault.Fault.TheVariants as fault
use Rattle.omos_wire.specs.Read.{HasPayload, answer_in}
use Rattle.omos_wire.specs.declared.owned_reply.NotReply.{NotReply}
use Rattle.omos_wire.specs.declared.owned_reply.ReplyParts.{ReplyParts}
use Rattle.omos_wire.proofs.Numbers.{IsBytes, front_four}

-- a text behind its length
pub text_front : (s rest : List ℕ) → length s < 2 ^ 16
    → slice_range (field s ++ rest) 2 (2 + text_size (field s ++ rest)) ≡ s
unfolding number_at
text_front s rest short =
    let size : text_size (field s ++ rest) ≡ length s =
    little_number-reads_back 2 (length s) (s ++ rest) (omega arith) in
    let two : 2 + length s - 2 ≡ length s = omega arith in
    ap (λ (n : ℕ). slice_range (field s ++ rest) 2 (2 + n)) size
    ∙ ap (λ (n : ℕ). take n (s ++ rest)) two ∙ take-append_seam s rest

-- and what follows it
pub text_behind : (s rest : List ℕ) → length s < 2 ^ 16
    → drop (2 + text_size (field s ++ rest)) (field s ++ rest) ≡ rest
unfolding number_at
text_behind s rest short =
    let size : text_size (field s ++ rest) ≡ length s =
    little_number-reads_back 2 (length s) (s ++ rest) (omega arith) in
    let whole : 2 + length s ≡ length (field s) = omega arith in
    ap (λ (n : ℕ). drop (2 + n) (field s ++ rest)) size
    ∙ ap (λ (n : ℕ). drop n (field s ++ rest)) whole ∙ drop-append_seam (field s) rest

fits_text : (Is Rest : List ℕ → Type 0) (s rest : List ℕ) → length s < 2 ^ 16 → Is s → Rest rest
    → IsTextField Is Rest (field s ++ rest)
unfolding number_at
fits_text Is Rest s rest short is more =
    let size : text_size (field s ++ rest) ≡ length s =
    little_number-reads_back 2 (length s) (s ++ rest) (omega arith) in
    record {
      sized = omega arith;
      there = omega (arith, size, length-append s rest);
      text = subst Is (sym (text_front s rest short)) is;
      rest = subst Rest (sym (text_behind s rest short)) more;
    }

-- fields fit their forms
fits_fields : (fs : List Field) → AllByRecursion IsField fs
    → FitsForms (map form_of fs) (flat_map field_bytes fs)
fits_fields [] h = refl
fits_fields (Number n ∷ fs) h = (omega arith, fits_fields fs h.1)
fits_fields (Wide n ∷ fs) h = (omega arith, fits_fields fs h.1)
fits_fields (Path p ∷ fs) h =
    fits_text IsPath (FitsForms (map form_of fs)) p (flat_map field_bytes fs) (omega (arith, h.0))
    h.0 (fits_fields fs h.1)
fits_fields (Symbol n ∷ fs) h =
    fits_text IsSymName (FitsForms (map form_of fs)) n (flat_map field_bytes fs)
    (omega (arith, h.0)) h.0 (fits_fields fs h.1)

fits_path : (x : PathFault) → AllByRecursion IsField (path_row x).fields
    → FitsAny (path_forms (path_row x).code) (flat_map field_bytes (path_row x).fields)
fits_path path.Long h = fits_fields [] h
fits_path (path.Shape n) h = fits_fields (path_row (path.Shape n)).fields h

fits_blueprint : (x : BpFault) → AllByRecursion IsField (text_row x).fields
    → FitsAny (text_forms (text_row x).code) (flat_map field_bytes (text_row x).fields)
fits_blueprint text.Long h = fits_fields (text_row text.Long).fields h
fits_blueprint (text.Byte n) h = fits_fields (text_row (text.Byte n)).fields h
fits_blueprint (text.Shape n) h = fits_fields (text_row (text.Shape n)).fields h
fits_blueprint (text.Deep n) h = fits_fields (text_row (text.Deep n)).fields h
fits_blueprint (text.Number n) h = fits_fields (text_row (text.Number n)).fields h
fits_blueprint (text.Range n) h = fits_fields (text_row (text.Range n)).fields h

fits_object : (x : ObjectFault) → AllByRecursion IsField (object_row x).fields
    → FitsAny (object_forms (object_row x).code) (flat_map field_bytes (object_row x).fields)
fits_object object.Length h = fits_fields (object_row object.Length).fields h
fits_object object.NotElf h = fits_fields (object_row object.NotElf).fields h
fits_object object.Kind h = fits_fields (object_row object.Kind).fields h
fits_object object.Headers h = fits_fields (object_row object.Headers).fields h
fits_object (object.Section i) h = fits_fields (object_row (object.Section i)).fields h
fits_object (object.Unsupported i) h = fits_fields (object_row (object.Unsupported i)).fields h
fits_object object.Symbols h = fits_fields (object_row object.Symbols).fields h
fits_object (object.Symbol k) h = fits_fields (object_row (object.Symbol k)).fields h
fits_object (object.Twice name) h = fits_fields (object_row (object.Twice name)).fields h
fits_object (object.Relas i) h = fits_fields (object_row (object.Relas i)).fields h
fits_object (object.Rela i j) h = fits_fields (object_row (object.Rela i j)).fields h

fits_link : (x : Refusal) → AllByRecursion IsField (link_row x).fields
    → FitsAny (link_forms (link_row x).code) (flat_map field_bytes (link_row x).fields)
fits_link (link.NoEntry site p) h = fits_fields (link_row (link.NoEntry site p)).fields h
fits_link (link.Cycle site p) h = fits_fields (link_row (link.Cycle site p)).fields h
fits_link (link.TooDeep site p) h = fits_fields (link_row (link.TooDeep site p)).fields h
fits_link (link.TooLarge site) h = fits_fields (link_row (link.TooLarge site)).fields h
fits_link (link.Conflict site name) h = fits_fields (link_row (link.Conflict site name)).fields h
fits_link (link.NoName site name) h = fits_fields (link_row (link.NoName site name)).fields h
fits_link (link.NoDefinition site name) h =
    fits_fields (link_row (link.NoDefinition site name)).fields h
fits_link (link.Taken site name) h = fits_fields (link_row (link.Taken site name)).fields h
fits_link (link.ImageTooLarge pages) h = fits_fields (link_row (link.ImageTooLarge pages)).fields h
fits_link (link.NoStart name) h = fits_fields (link_row (link.NoStart name)).fields h
fits_link (link.Unresolved leaf fixup name) h =
    fits_fields (link_row (link.Unresolved leaf fixup name)).fields h
fits_link (link.NoRoom pages lo hi) h = fits_fields (link_row (link.NoRoom pages lo hi)).fields h
fits_link (link.Overflow leaf fixup) h = fits_fields (link_row (link.Overflow leaf fixup)).fields h

fits_reason : (x : Reason) → AllByRecursion IsField (row_of x).fields
    → FitsCode (row_of x).code (flat_map field_bytes (row_of x).fields)
fits_reason (code.Path x) h = record { fits = inl (fits_path x h) }
fits_reason (code.Object x) h = record { fits = inr (inl (fits_object x h)) }
fits_reason (code.Text x) h = record { fits = inr (inr (inl (fits_blueprint x h))) }
fits_reason (code.Link x) h = record { fits = inr (inr (inr (fits_link x h))) }

pub length-spans : (ss : List Span) → length (flat_map span_bytes ss) ≡ 12 * length ss
length-spans [] = refl
length-spans (s ∷ ss) =
    omega (arith, length-append (span_bytes s) (flat_map span_bytes ss), length-spans ss)

fits_places : (ss : List Span) → length (payload (Places ss)) ≤ 16777216
    → FitsShape (shape_at 132) (little_bytes 4 (length ss) ++ flat_map span_bytes ss)
unfolding number_at
fits_places ss few =
    let bytes : List ℕ = flat_map span_bytes ss in
    let count : number_at 4 0 (little_bytes 4 (length ss) ++ bytes) ≡ length ss =
    little_number-reads_back 4 (length ss) bytes (omega (arith, few, length-spans ss)) in
    (omega arith, omega (arith, count, length-spans ss))

fits_flag : (held : Bool) → FitsShape (shape_at 134) (flag held ∷ [])
fits_flag true = (refl, omega arith)
fits_flag false = (refl, omega arith)

abbrev pub kind_in : Answer → ℕ
kind_in (Published v) = 129
kind_in (Image v base bytes) = 130
kind_in (Refused x) = 131
kind_in (Places ss) = 132
kind_in (Counts n) = 133
kind_in (Flushed held) = 134
kind_in Bye = 135
kind_in NoMemory = 136
kind_in Full = 137
kind_in KeptFull = 138

-- what stands behind the kind byte
abbrev pub behind : Answer → List ℕ
behind a = drop 1 (payload a)

fits_payload : (a : Answer) → HasValues a → length (payload a) ≤ 16777216
    → FitsShape (shape_at (kind_in a)) (behind a)
fits_payload (Published v) h few = (omega arith, refl)
fits_payload (Image v base bytes) h few = omega arith
fits_payload (Refused x) h few = (omega arith, fits_reason x h)
fits_payload (Places ss) h few = fits_places ss few
fits_payload (Counts n) h few = refl
fits_payload (Flushed held) h few = fits_flag held
fits_payload Bye h few = refl
fits_payload NoMemory h few = refl
fits_payload Full h few = refl
fits_payload KeptFull h few = refl

pub payload_is : (a : Answer) → payload a ≡ kind_in a ∷ behind a
payload_is (Published v) = refl
payload_is (Image v base bytes) = refl
payload_is (Refused x) = refl
payload_is (Places ss) = refl
payload_is (Counts n) = refl
payload_is (Flushed held) = refl
payload_is Bye = refl
payload_is NoMemory = refl
payload_is Full = refl
payload_is KeptFull = refl

fits_frame : (a : Answer) (kind : ℕ) (bytes : List ℕ) → payload a ≡ kind ∷ bytes
    → length (payload a) ≤ 16777216 → FitsShape (shape_at kind) bytes → IsReply (reply_frame a)
unfolding reply_frame number_at
fits_frame a kind bytes is few fits =
    let size : ℕ = length (payload a) in
    let frame : reply_frame a ≡ little_bytes 4 size ++ kind ∷ bytes =
    ap (λ (s : List ℕ). little_bytes 4 size ++ s) is in
    let long : size ≡ 1 + length bytes = ap length is ∙ omega arith in
    subst IsReply (sym frame) (record {
      long = omega arith;
      size = little_number-reads_back 4 size (kind ∷ bytes) (omega (arith, few))
          ∙ omega (arith, long);
      few = omega (arith, long, few);
      shape = fits;
    })

-- a reply's frame has the size, the kind and the fields of one
pub reply_fits : (bytes : List ℕ) (a : Answer) → IsReplyFrame bytes a → IsReply bytes
reply_fits bytes a h =
    subst IsReply (sym h.frame)
    (fits_frame a (kind_in a) (behind a) (payload_is a) h.size (fits_payload a h.values h.size))

-- ---- a frame that was read

cut_five : (bytes : List ℕ) → 5 ≤ length bytes → drop 4 bytes ≡ slice_index bytes 4 ∷ drop 5 bytes
cut_five (a ∷ b ∷ c ∷ d ∷ k ∷ rest) long = refl
cut_five [] long = absurd (omega arith)
cut_five (a ∷ []) long = absurd (omega arith)
cut_five (a ∷ b ∷ []) long = absurd (omega arith)
cut_five (a ∷ b ∷ c ∷ []) long = absurd (omega arith)
cut_five (a ∷ b ∷ c ∷ d ∷ []) long = absurd (omega arith)

whole_frame : (frame : List ℕ) (a : Answer) → IsBytes frame → 5 ≤ length frame
    → length frame ≤ 16777220 → number_at 4 0 frame ≡ length frame - 4
    → HasPayload a (slice_index frame 4) (drop 5 frame) → IsReplyFrame frame a
unfolding reply_frame
whole_frame frame a ok long few size has =
    let cut : drop 4 frame ≡ payload a = cut_five frame long ∙ sym has.whole in
    let sized : length (payload a) ≡ length frame - 4 = ap length (sym cut) ∙ length-drop 4 frame in
    record {
      frame =
          front_four frame ok (omega arith)
          ∙ ap (λ (n : ℕ). little_bytes 4 n ++ drop 4 frame) (size ∙ sym sized)
          ∙ ap (λ (s : List ℕ). little_bytes 4 (length (payload a)) ++ s) cut;
      size = omega (arith, sized, few, long);
      values = has.values;
    }

pub whole_by : (result : Result ReplyParts (Fault NotReply)) (frame : List ℕ) → IsBytes frame
    → 5 ≤ length frame → length frame ≤ 16777220 → number_at 4 0 frame ≡ length frame - 4
    → MatchFault result (λ parts. HasPayload (answer_in parts) (slice_index frame 4) (drop 5 frame))
    (λ _. FitsShape (shape_at (slice_index frame 4)) (drop 5 frame) → ⊥)
    → MatchFault result (λ parts. IsReplyFrame frame (answer_in parts)) (λ _. IsReply frame → ⊥)
whole_by (Ok parts) frame ok long few size h =
    whole_frame frame (answer_in parts) ok long few size h
whole_by (Err (fault.Refused x)) frame ok long few size h = λ is. h is.shape
whole_by (Err fault.NoMemory) frame ok long few size h = tt

pub reply_by : (result : Result ReplyParts (Fault NotReply)) (frame : List ℕ)
    → MatchFault result (λ parts. IsReplyFrame frame (answer_in parts)) (λ _. IsReply frame → ⊥)
    → MatchFault result (λ parts. IsReplyFrame frame (answer_in parts)) (λ _. (a : Answer)
    → IsReplyFrame frame a → ⊥)
reply_by (Ok parts) frame h = h
reply_by (Err (fault.Refused x)) frame h = λ a is. h (reply_fits frame a is)
reply_by (Err fault.NoMemory) frame h = tt
