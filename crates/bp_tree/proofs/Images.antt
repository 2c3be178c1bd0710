-- Whole images, and whole texts.
use Rattle.std.proofs.Common.{◌≡◌, ◌≤◌, ℕ, ◌+◌, true, ◌&&◌, nat_le, List, [], ◌∷◌, ◌++◌, All, refl}
use Rattle.std.proofs.Common.{sym, ap, subst, ◌∙◌, inl, inr, codes, arith, append_assoc, length}
use Rattle.std.proofs.lemmas.Bool.{and_from}
use Rattle.std.proofs.lemmas.List.{append-nil}
use Rattle.std.proofs.lemmas.List.Elements.{All-nil, All-cons, All-append}
use Rattle.omos_model.specs.ImageParts.{image_of, is_range, is_formed, nesting, IsImage}
use Rattle.omos_model.specs.declared.entry.Start.{Start}
use Rattle.omos_model.specs.declared.expr.Expr.{Expr}
use Rattle.omos_model.specs.declared.refusal.BpFault.{BpFault}
use Rattle.omos_model.specs.declared.refusal.BpFault.TheVariants.{Long, Byte, Shape, Deep, Number}
use Rattle.omos_model.specs.declared.refusal.BpFault.TheVariants.{Range}
use Rattle.bp_tree.specs.Tokens.{Token, Open, Close, Word, Barred, Placed, tokens_of}
use Rattle.bp_tree.specs.Texts.{words_of}
use Rattle.bp_tree.specs.TextFaults.{Begins, images, StandsInTexts, IsBarredAt, HasTokenFault}
use Rattle.bp_tree.specs.TextFaults.{IsTextFault}
use Rattle.bp_tree.specs.Grammar.{IsExpr, IsImageOf, IsStart, IsRange}
use Rattle.bp_tree.specs.inside.Symbols.{It, AnExpr, AStart, ARange, AreSyms, Completable, Fails}
use Rattle.bp_tree.specs.inside.Symbols.{AreRead, WhyStops}
use Rattle.bp_tree.specs.inside.Header.{IsHeaderPart, HasHead, body_syms, range_syms, image_syms}
use Rattle.bp_tree.specs.declared.stop.Stop.{Stop}
use Rattle.bp_tree.specs.declared.stop.Stop.TheVariants.{At}
use Rattle.bp_tree.proofs.Headers.{range_open}
use Rattle.bp_tree.proofs.Starts.{no_start}
use Rattle.bp_tree.proofs.Lawful.{expr_fits}
use Rattle.bp_tree.proofs.Moves.{shape_fault}
use Rattle.bp_tree.proofs.Sequences.{same}
use Rattle.bp_tree.proofs.NameLists.{words-append}
use Rattle.bp_tree.proofs.Solids.{solid_it}

-- ---- images as symbols

to_image : (more : ℕ) (ws : List Token) → AreSyms image_syms more ws → images more ws
to_image more ws h =
    let named = h.4 in
    let begun = named.4 in
    let ranged = begun.4 in
    let body = ranged.4 in
    let last = body.4 in
    let e1 : ws ≡ Open ∷ h.1 = h.2 ∙ ap (λ us. us ++ h.1) h.3 in
    let e2 : h.1 ≡ Word (codes "image") ∷ named.1 = named.2 ∙ ap (λ us. us ++ named.1) named.3 in
    let e6 : body.1 ≡ Close ∷ [] = last.2 ∙ ap (λ us. us ++ last.1) last.3
    ∙ ap (λ us. Close ∷ us) last.4 in
    let e5 : ranged.1 ≡ body.0 ++ Close ∷ [] = body.2 ∙ ap (λ us. body.0 ++ us) e6 in
    let e4 : begun.1 ≡ ranged.0 ++ (body.0 ++ Close ∷ []) =
    ranged.2 ∙ ap (λ us. ranged.0 ++ us) e5 in
    let e3 : named.1 ≡ begun.0 ++ (ranged.0 ++ (body.0 ++ Close ∷ [])) =
    begun.2 ∙ ap (λ us. begun.0 ++ us) e4 in (
      image_of begun.3.0 ranged.3.0 ranged.3.1 body.3.0,
      (
        begun.0,
        ranged.0,
        body.0,
        e1 ∙ ap (λ us. Open ∷ us) e2 ∙ ap (λ us. Open ∷ Word (codes "image") ∷ us) e3,
        begun.3.1,
        ranged.3.2,
        body.3.1,
      ),
    )

from_image : (more : ℕ) (ws : List Token) → images more ws → AreSyms image_syms more ws
from_image more ws h =
    let i = h.1 in (
      Open ∷ [],
      Word (codes "image") ∷ (i.0 ++ (i.1 ++ (i.2 ++ Close ∷ []))),
      i.3,
      refl,
      (
        Word (codes "image") ∷ [],
        i.0 ++ (i.1 ++ (i.2 ++ Close ∷ [])),
        refl,
        refl,
        (
          i.0,
          i.1 ++ (i.2 ++ Close ∷ []),
          refl,
          (h.0.start, i.4),
          (
            i.1,
            i.2 ++ Close ∷ [],
            refl,
            (h.0.lo, h.0.hi, i.5),
            (i.2, Close ∷ [], refl, (h.0.body, i.6), (Close ∷ [], [], refl, refl, refl)),
          ),
        ),
      ),
    )

pub as_images : (ts : List Placed) (stop : Stop) → WhyStops (AreSyms image_syms) ts stop
    → WhyStops images ts stop
as_images ts stop h = same (AreSyms image_syms) images ts stop to_image from_image h

-- ---- the head

start_solid : Completable (AStart ∷ range_syms)
start_solid more = let b = range_open more in (Open ∷ b.0, no_start more (Open ∷ b.0) b.1)

pub open_stops : (ts : List Placed) (stop : Stop) → Fails (It Open ∷ []) ts stop
    → WhyStops (AreSyms image_syms) ts stop
open_stops ts stop f =
    f.why (It (Word (codes "image")) ∷ AStart ∷ range_syms)
    (solid_it (Word (codes "image")) (AStart ∷ range_syms) start_solid)

abbrev Opened : List Placed → List Placed → Type 0
Opened ts a = AreRead (It Open ∷ []) (λ ws. ws ≡ Open ∷ []) ts a

abbrev Named : List Placed → List Placed → Type 0
Named a b = AreRead (It (Word (codes "image")) ∷ []) (λ ws. ws ≡ Word (codes "image") ∷ []) a b

pub any_image : Begins images 0 []
any_image =
    let word = Word (codes "image") in
    let named = solid_it word (AStart ∷ range_syms) start_solid in
    let b = solid_it Open (It word ∷ AStart ∷ range_syms) named 0 in (b.0, to_image 0 b.0 b.1)

pub image_stops : (ts a : List Placed) (stop : Stop) → Opened ts a
    → Fails (It (Word (codes "image")) ∷ []) a stop
    → WhyStops (AreSyms image_syms) ts stop
image_stops ts a stop o f =
    o.leads (It (Word (codes "image")) ∷ AStart ∷ range_syms) stop
    (f.why (AStart ∷ range_syms) start_solid)

pub start_stops : (ts a b : List Placed) (stop : Stop) → Opened ts a → Named a b
    → WhyStops (AreSyms (AStart ∷ range_syms)) b stop
    → WhyStops (AreSyms image_syms) ts stop
start_stops ts a b stop o n h =
    o.leads (It (Word (codes "image")) ∷ AStart ∷ range_syms) stop
    (n.leads (AStart ∷ range_syms) stop h)

pub head_done : (s : Start) (lo hi : ℕ) (ts a b c d : List Placed) → Opened ts a → Named a b
    → IsHeaderPart AStart range_syms (λ ws. IsStart ws s) b c
    → IsHeaderPart ARange body_syms (λ ws. IsRange ws lo hi) c d
    → HasHead s lo hi ts d
head_done s lo hi ts a b c d o n p q =
    let front = o.front ++ (n.front ++ (p.front ++ q.front)) in
    let parts : ts ≡ front ++ d =
    o.parts ∙ ap (λ us. o.front ++ us)
    (n.parts ∙ ap (λ us. n.front ++ us) (p.parts ∙ ap (λ us. p.front ++ us) q.parts
    ∙ sym (append_assoc p.front q.front d)) ∙ sym (append_assoc n.front (p.front ++ q.front) d))
    ∙ sym (append_assoc o.front (n.front ++ (p.front ++ q.front)) d) in
    let words : words_of front ≡ Open ∷ Word (codes "image")
    ∷ (words_of p.front ++ words_of q.front) =
    words-append o.front (n.front ++ (p.front ++ q.front))
    ∙ ap (λ us. us ++ words_of (n.front ++ (p.front ++ q.front))) o.value
    ∙ ap (λ us. Open ∷ us) (words-append n.front (p.front ++ q.front)
    ∙ ap (λ us. us ++ words_of (p.front ++ q.front)) n.value
    ∙ ap (λ us. Word (codes "image") ∷ us) (words-append p.front q.front)) in
    record {
      front = front;
      parts = parts;
      value = (words_of p.front, words_of q.front, words, p.value, q.value);
      leads = λ stop h. start_stops ts a b stop o n (p.leads stop (q.leads stop h));
    }

pub range_stops : (s : Start) (ts a b c : List Placed) (stop : Stop) → Opened ts a → Named a b
    → IsHeaderPart AStart range_syms (λ ws. IsStart ws s) b c → WhyStops (AreSyms range_syms) c stop
    → WhyStops (AreSyms image_syms) ts stop
range_stops s ts a b c stop o n p h = start_stops ts a b stop o n (p.leads stop h)

-- ---- the body and the end

nothing : Completable []
nothing more = ([], refl)

pub body_stops : (s : Start) (lo hi : ℕ) (ts a : List Placed) (stop : Stop) → HasHead s lo hi ts a
    → Fails (AnExpr 63 ∷ []) a stop
    → WhyStops images ts stop
body_stops s lo hi ts a stop h f =
    as_images ts stop (h.leads stop (f.why (It Close ∷ []) (solid_it Close [] nothing)))

abbrev Bodied : Expr → List Placed → List Placed → Type 0
Bodied x a b = AreRead (AnExpr 63 ∷ []) (λ ws. IsExpr 63 ws x) a b

abbrev Closed : List Placed → List Placed → Type 0
Closed b c = AreRead (It Close ∷ []) (λ ws. ws ≡ Close ∷ []) b c

pub close_stops : (s : Start) (lo hi : ℕ) (x : Expr) (ts a b : List Placed) (stop : Stop)
    → HasHead s lo hi ts a → Bodied x a b
    → Fails (It Close ∷ []) b stop → WhyStops images ts stop
close_stops s lo hi x ts a b stop h r f =
    as_images ts stop (h.leads stop (r.leads (It Close ∷ []) stop (f.why [] nothing)))

pub end_stops : (s : Start) (lo hi : ℕ) (x : Expr) (ts a b c : List Placed) (stop : Stop)
    → HasHead s lo hi ts a → Bodied x a b
    → Closed b c → WhyStops (AreSyms []) c stop → WhyStops images ts stop
end_stops s lo hi x ts a b c stop h r q w =
    as_images ts stop (h.leads stop (r.leads (It Close ∷ []) stop (q.leads [] stop w)))

pub trailing : (ts : List Placed) (t : Placed) (after : List Placed) → ts ≡ t ∷ after
    → WhyStops (AreSyms []) ts (At (Shape t.place))
trailing ts t after e =
    let P : List Placed → Type 0 = λ us. WhyStops (AreSyms []) us (At (Shape t.place)) in
    subst P (sym e) (shape_fault (AreSyms []) t after ([], refl)
    (λ b. let q : t.token ∷ b.0 ≡ [] = b.1 in cc)
    (λ d. let q : t.token ∷ d.1.1.0 ≡ [] = d.1.1.1 in cc)
    (λ w is c. let q : Word c.0.0 ∷ c.0.1.0 ≡ [] = c.0.1.1 in cc))

pub whole : (s : Start) (lo hi : ℕ) (x : Expr) (ts a b c : List Placed) → HasHead s lo hi ts a
    → Bodied x a b → Closed b c → c ≡ []
    → IsImageOf 63 (words_of ts) (image_of s lo hi x)
whole s lo hi x ts a b c h r q none =
    let v = h.value in
    let front = r.front ++ q.front in
    let ending : words_of a ≡ words_of r.front ++ Close ∷ [] =
    ap words_of
    (r.parts ∙ ap (λ us. r.front ++ us) (q.parts ∙ ap (λ us. q.front ++ us) none
    ∙ append-nil q.front))
    ∙ words-append r.front q.front ∙ ap (λ us. words_of r.front ++ us) q.value in
    let all : words_of ts ≡ Open ∷ Word (codes "image")
    ∷ (v.0 ++ (v.1 ++ (words_of r.front ++ Close ∷ []))) =
    ap words_of h.parts ∙ words-append h.front a ∙ ap (λ us. us ++ words_of a) v.2
    ∙ ap (λ us. Open ∷ Word (codes "image") ∷ ((v.0 ++ v.1) ++ us)) ending
    ∙ ap (λ us. Open ∷ Word (codes "image") ∷ us)
    (append_assoc v.0 v.1 (words_of r.front ++ Close ∷ [])) in
    (v.0, v.1, words_of r.front, all, v.3, v.4, r.value)

range_true : (ws : List Token) (lo hi : ℕ) → IsRange ws lo hi → is_range lo hi ≡ true
range_true ws lo hi h =
    elim h [
      | inl n ↦ ap (λ l. is_range l hi) n.1 ∙ ap (λ u. is_range 4194304 u) n.2
      | inr r ↦ r.5
    ]

pub lawful : (s : Start) (lo hi : ℕ) (x : Expr) (ts a b : List Placed) → HasHead s lo hi ts a
    → Bodied x a b
    → IsImage (image_of s lo hi x)
lawful s lo hi x ts a b h r =
    let fits = expr_fits 63 (words_of r.front) x r.value in
    let low : nesting x ≤ 63 = fits.1 in
    let deep : nat_le (nesting x + 1) 64 ≡ true = grind (arith, low) in
    and_from (is_range lo hi && is_formed x) (nat_le (nesting x + 1) 64)
    (and_from (is_range lo hi) (is_formed x) (range_true h.value.1 lo hi h.value.4) fits.0) deep

-- ---- texts

pub token_fault : (text : List ℕ) (fault : BpFault) → length text ≤ 65536
    → All StandsInTexts (tokens_of text)
    → HasTokenFault images (tokens_of text) (length text) fault → IsTextFault text fault
token_fault text Long short allowed (inl s) = absurd s.why
token_fault text Long short allowed (inr s) = let q : Long ≡ Shape (length text) = s.0 in absurd cc
token_fault text (Byte p) short allowed (inl s) = absurd s.why
token_fault text (Byte p) short allowed (inr s) = let q : Byte p ≡ Shape (length text) =
    s.0 in absurd cc
token_fault text (Shape p) short allowed h = (short, allowed, h)
token_fault text (Deep p) short allowed h = (short, allowed, h)
token_fault text (Number p) short allowed h = (short, allowed, h)
token_fault text (Range p) short allowed h = (short, allowed, h)

-- ---- bytes that may not stand in a text

abbrev pub Passed : List Placed → List Placed → Type 0
Passed ts rest = (front : List Placed) × (ts ≡ front ++ rest) × All StandsInTexts front

pub passed_one : (ts rest after : List Placed) (t : Placed) → Passed ts rest → rest ≡ t ∷ after
    → StandsInTexts t → Passed ts after
passed_one ts rest after t p e is = (
  p.0 ++ t ∷ [],
  p.1 ∙ ap (λ us. p.0 ++ us) e ∙ sym (append_assoc p.0 (t ∷ []) after),
  All-append StandsInTexts p.0 (t ∷ []) p.2
      (All-cons StandsInTexts t [] is (All-nil StandsInTexts)),
)

pub passed_all : (ts rest : List Placed) → Passed ts rest → rest ≡ [] → All StandsInTexts ts
passed_all ts rest p e =
    subst (All StandsInTexts) (sym (p.1 ∙ ap (λ us. p.0 ++ us) e ∙ append-nil p.0)) p.2

pub barred_here : (ts rest after : List Placed) (byte place : ℕ) → Passed ts rest
    → rest ≡ record { token = Barred byte; place = place } ∷ after → IsBarredAt ts place
barred_here ts rest after byte place p e = (p.0, byte, after, p.1 ∙ ap (λ us. p.0 ++ us) e, p.2)
