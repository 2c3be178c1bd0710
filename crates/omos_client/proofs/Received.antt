-- What the first bytes of a reply say, and what comes of a reply that isn't whole.
use Rattle.std.proofs.Common.{◌≡◌, ℕ, ◌+◌, ◌-◌, ◌<◌, ◌≤◌, Bool, true, List, [], ◌∷◌, ◌++◌, length}
use Rattle.std.proofs.Common.{Option, Err, Ok}
use Rattle.std.proofs.Common.{refl, sym, ap, ◌∙◌, arith, length-append, append_assoc, append-nil}
use Rattle.std.proofs.Common.{inl, inr, subst}
use Rattle.std.specs.Prelude.{Result}
use Rattle.omos_base.specs.Fields.{number_at}
use Rattle.omos_outside.specs.Stream.{Stream, Gives}
use Rattle.omos_outside.proofs.Known.{Gives-then}
use Rattle.stream_reads.specs.Exact.{Filled, Grew}
use Rattle.stream_reads.specs.declared.exact.Unread.{Unread}
use Rattle.stream_reads.specs.declared.exact.Unread.TheVariants.{Ended, Failed, NoMemory}
use Rattle.omos_wire.specs.Answer.{Answer, IsReplyFrame, longest_reply}
use Rattle.omos_wire.proofs.Fitting.{reply_fits}
use Rattle.omos_client.specs.Replies.{BeginNoReply, Hears, IsAnswered, Receives, ReceivesBye}
use Rattle.omos_client.specs.Replies.{cause_of, may_have}
use Rattle.omos_client.specs.declared.errand.Command.{Command}
use Rattle.omos_client.specs.declared.receiving.Unheard.{Unheard}
use Rattle.omos_client.specs.declared.receiving.Unheard.TheVariants as unheard
use Rattle.omos_client.specs.declared.receiving.Unheard.TheVariants.{NotReply}

-- the number of four bytes, whatever follows them
pub number_front : (xs ys : List ℕ) → length xs ≡ 4 → number_at 4 0 (xs ++ ys) ≡ number_at 4 0 xs
unfolding number_at
number_front (a ∷ b ∷ c ∷ d ∷ []) ys four = refl
number_front [] ys four = absurd (omega arith)
number_front (a ∷ []) ys four = absurd (omega arith)
number_front (a ∷ b ∷ []) ys four = absurd (omega arith)
number_front (a ∷ b ∷ c ∷ []) ys four = absurd (omega arith)
number_front (a ∷ b ∷ c ∷ d ∷ e ∷ xs) ys four = absurd (omega arith)

-- no reply has a length of 0, or one that is too long
pub no_length : (bytes : List ℕ) → length bytes ≡ 4
    → (1 ≤ number_at 4 0 bytes → number_at 4 0 bytes ≤ longest_reply → ⊥) → BeginNoReply bytes
no_length bytes four bad a tail h =
    let is = reply_fits (bytes ++ tail) a h in
    let front = number_front bytes tail four in
    bad (omega (arith, is.long, is.size, front)) (omega (arith, is.few, is.size, front))

none_left : (tail : List ℕ) → length tail ≡ 0 → tail ≡ []
none_left [] none = refl
none_left (x ∷ tail) none = absurd (omega arith)

-- a whole frame that is no reply begins none
pub no_frame : (first more : List ℕ) → length first ≡ 4
    → length (first ++ more) ≡ 4 + number_at 4 0 first
    → ((a : Answer) → IsReplyFrame (first ++ more) a → ⊥) → BeginNoReply (first ++ more)
no_frame first more four whole none a tail h =
    let is = reply_fits ((first ++ more) ++ tail) a h in
    let front = ap (number_at 4 0) (append_assoc first more tail)
    ∙ number_front first (more ++ tail) four in
    let empty : length tail ≡ 0 =
    omega (arith, is.long, is.size, front, whole, length-append (first ++ more) tail) in
    let same = ap (λ (t : List ℕ). (first ++ more) ++ t) (none_left tail empty)
    ∙ append-nil (first ++ more) in
    none a (subst (λ (bytes : List ℕ). IsReplyFrame bytes a) same h)

-- ---- why a reply isn't whole

-- its length isn't there
pub short_first : (e : Unread) (a b : Option Stream) (bytes : List ℕ)
    → Filled (Err e) a b [] bytes 4 → Receives (Err (cause_of e)) a b
short_first Ended a b bytes h =
    (bytes, subst (Gives a b) (sym h.0.added) h.0.given, (h.2, inl h.1))
short_first Failed a b bytes h = (bytes, subst (Gives a b) (sym h.0.added) h.0.given, tt)
short_first NoMemory a b bytes h = tt

gave_both : (a b c : Option Stream) (first bytes : List ℕ) → Grew a b [] first
    → Grew b c first bytes → Gives a c bytes
gave_both a b c first bytes one two =
    subst (Gives a c) (sym two.added)
    (Gives-then a b c first two.more (subst (Gives a b) (sym one.added) one.given) two.given)

-- its length is there, and not all of it
pub short_second : (e : Unread) (a b c : Option Stream) (first bytes : List ℕ) → length first ≡ 4
    → Grew a b [] first → Filled (Err e) b c first bytes (4 + number_at 4 0 first)
    → Receives (Err (cause_of e)) a c
short_second Ended a b c first bytes four one h =
    let front = ap (number_at 4 0) h.0.added ∙ number_front first h.0.more four in
    (bytes, gave_both a b c first bytes one h.0, (h.2, inr (omega (arith, h.1, front))))
short_second Failed a b c first bytes four one h = (bytes, gave_both a b c first bytes one h.0, tt)
short_second NoMemory a b c first bytes four one h = tt

-- all of it is there, and is no reply
pub no_reply : (a b c : Option Stream) (first bytes : List ℕ) → length first ≡ 4
    → Grew a b [] first → Grew b c first bytes → length bytes ≡ 4 + number_at 4 0 first
    → ((x : Answer) → IsReplyFrame bytes x → ⊥) → Receives (Err NotReply) a c
no_reply a b c first bytes four one two whole none =
    let is : BeginNoReply (first ++ two.more) =
    no_frame first two.more four (ap length (sym two.added) ∙ whole)
    (subst (λ (bs : List ℕ). (x : Answer) → IsReplyFrame bs x → ⊥) two.added none) in
    (bytes, gave_both a b c first bytes one two, subst BeginNoReply (sym two.added) is)

-- a reply that the request may have, and no Bye behind it
pub then_unheard : (e : Unheard) (command : Command) (x : Answer) (a b c : Option Stream)
    (first : List ℕ)
    → Gives a b first → IsReplyFrame first x → may_have command x ≡ true
    → ReceivesBye (Err e) b c → Hears (Err e) command a c
then_unheard unheard.Ended command x a b c first given frame may h =
    let answered : IsAnswered command x (first ++ h.0) h.0 =
    record { first = first; whole = refl; frame = frame; may = may } in
    (first ++ h.0, Gives-then a b c first h.0 given h.1, (h.2.0, inr (x, h.0, answered, h.2.1)))
then_unheard NotReply command x a b c first given frame may h =
    let answered : IsAnswered command x (first ++ h.0) h.0 =
    record { first = first; whole = refl; frame = frame; may = may } in
    (first ++ h.0, Gives-then a b c first h.0 given h.1, inr (inr (x, h.0, answered, h.2)))
then_unheard unheard.SourceFailed command x a b c first given frame may h =
    (first ++ h.0, Gives-then a b c first h.0 given h.1, tt)
then_unheard unheard.NoMemory command x a b c first given frame may h = tt
