-- A store keeps what it is by the answer to a link request.
use Rattle.std.proofs.Common.{◌≡◌, ℕ}
use Rattle.std.proofs.Common.{List, [], ◌∷◌, ◌++◌, refl, ap, sym, ◌∙◌, arith}
use Rattle.std.proofs.Common.{None, Ok}
use Rattle.omos_base.specs.Limits.{Counts as Limits}
use Rattle.omos_model.specs.Namespace.{Space}
use Rattle.link_model.specs.Answer.{answer}
use Rattle.link_model.specs.Module.{LinkedImage}
use Rattle.link_model.specs.Plan.{Plan}
use Rattle.link_model.proofs.Footprints.{own_frame_law}
use Rattle.omos_model.specs.declared.placement.Placement.{Placement}
use Rattle.image_cache.specs.declared.item.Item.{Item}
use Rattle.history_book.specs.Told.{ask_of}
use Rattle.history_book.specs.Owed.{IsNumbered}
use Rattle.history_book.specs.Due.{due, storing, storing_for}
use Rattle.history_book.specs.Legal.{MayEnd}
use Rattle.history_book.specs.declared.step.Note.{Note}
use Rattle.history_book.specs.declared.step.Note.TheVariants.{Image}
use Rattle.history_book.specs.declared.step.Note.TheVariants as note
use Rattle.history_book.specs.declared.step.Step.{Step}
use Rattle.history_book.specs.declared.step.Step.TheVariants.{Answered}
use Rattle.history_book.proofs.Grow.{cache_push}
use Rattle.history_book.proofs.Legality.{due_push, legal_push}
use Rattle.history_book.proofs.Legality.{dues_none}
use Rattle.history_book.proofs.Numbers.{ask_stays}
use Rattle.history_book.proofs.Numbered.{numbered_answer}
use Rattle.history_book.proofs.Rooms.{answered_fits}
use Rattle.hub_store.specs.Keeps.{IsStore, AreTold, facts}
use Rattle.hub_store.specs.Parts.{TicketParts, IsTicket, asking_of}
use Rattle.hub_store.specs.Links.{IsImageFor, ending, IsPlain}
use Rattle.hub_store.proofs.Kept.{all_kept}
use Rattle.hub_store.proofs.Requests.{plain_push}

-- ---- ending

-- an image that may end a link request does so by its answer
pub image_may_end : (P : List Step) (t : TicketParts) (l : LinkedImage) (plan : Plan) → IsTicket P t
    → IsImageFor P t l plan
    → answer l.footprint l.path l.base ≡ Ok l.bytes → MayEnd P (asking_of t) (Image l.base)
image_may_end P t l plan ticket image is =
    let own = own_frame_law t.space t.path l.footprint image.listed in (
      plan,
      l.bytes,
      image.place,
      ap (λ ns. answer ns t.path l.base) (sym ticket.space) ∙ own.answered l.base
          ∙ ap (λ p. answer l.footprint p l.base) (sym image.path) ∙ is,
    )

plain_due : (c : ℕ) (P : List Step) (seat n : ℕ) (x : Note) → IsPlain x
    → due c (P ++ Answered seat n x ∷ []) ≡ None
plain_due c P seat n (Image base) p = absurd p
plain_due c P seat n (note.Refused x) p = due_push c P (Answered seat n (note.Refused x))
plain_due c P seat n note.NoMemory p = due_push c P (Answered seat n note.NoMemory)
plain_due c P seat n note.Replayed p = due_push c P (Answered seat n note.Replayed)

answered_numbers : (P : List Step) (t : TicketParts) (x : Note) → IsNumbered P → IsTicket P t
    → IsNumbered (P ++ Answered t.seat t.number x ∷ [])
answered_numbers P t x h ticket = numbered_answer P (asking_of t) t.seat x h ticket.here

pub answered_told : (P : List Step) (space : Space) (book : List Placement) (items : List Item)
    (t : TicketParts) (x : Note)
    → AreTold P space book items → IsTicket P t
    → AreTold (P ++ Answered t.seat t.number x ∷ []) space book items
answered_told P space book items t x told ticket =
    plain_push P space book items items (Answered t.seat t.number x) told refl refl refl
    (all_kept P (Answered t.seat t.number x ∷ []) items told.kept)
    (answered_numbers P t x told.numbered ticket)

-- an answer after which nothing is due
after_answer : (limits : Limits) (P : List Step) (space : Space) (book : List Placement)
    (items : List Item)
    (t : TicketParts) (x : Note) → IsStore limits P space book items → IsTicket P t
    → MayEnd P (asking_of t) x
    → due limits.cache (P ++ Answered t.seat t.number x ∷ []) ≡ None
    → IsStore limits (P ++ Answered t.seat t.number x ∷ []) space book items
after_answer limits P space book items t x st ticket may none =
    let fits = answered_fits limits.steps P (asking_of t) t.seat x st.fits ticket.here in
    record {
      legal = legal_push limits.cache limits.steps P (Answered t.seat t.number x) st.legal
          (t.path, t.version, ticket.here, may) none;
      told = answered_told P space book items t x st.told ticket;
      fits = omega arith;
    }

pub after_plain : (limits : Limits) (P : List Step) (space : Space) (book : List Placement)
    (items : List Item)
    (t : TicketParts) (x : Note) → IsStore limits P space book items → IsTicket P t
    → MayEnd P (asking_of t) x → IsPlain x
    → IsStore limits (P ++ Answered t.seat t.number x ∷ []) space book items
after_plain limits P space book items t x st ticket may plain =
    after_answer limits P space book items t x st ticket may
    (plain_due limits.cache P t.seat t.number x plain)

pub plain_ending : (c : ℕ) (P : List Step) (t : TicketParts) (x : Note) → IsPlain x
    → ending c P t x ≡ Answered t.seat t.number x ∷ []
plain_ending c P t x plain =
    ap (λ ds. Answered t.seat t.number x ∷ ds)
    (dues_none c (P ++ Answered t.seat t.number x ∷ []) (plain_due c P t.seat t.number x plain))

pub image_due : (c : ℕ) (P : List Step) (space : Space) (book : List Placement) (items : List Item)
    (t : TicketParts) (base : ℕ)
    → AreTold P space book items → IsTicket P t
    → due c (P ++ Answered t.seat t.number (Image base) ∷ [])
    ≡ storing c (facts items) t.seat t.number t.path t.version
image_due c P space book items t base told ticket =
    let a : Step = Answered t.seat t.number (Image base) in
    due_push c P a
    ∙ ap (λ is. storing_for c is t.seat t.number (ask_of (P ++ a ∷ []) t.number))
    (cache_push P a ∙ sym told.cache_is)
    ∙ ap (storing_for c (facts items) t.seat t.number)
    (ask_stays P (a ∷ []) t.number (asking_of t) ticket.here.asked)

pub after_unstored : (limits : Limits) (P : List Step) (space : Space) (book : List Placement)
    (items : List Item)
    (t : TicketParts) (base : ℕ) → IsStore limits P space book items → IsTicket P t
    → MayEnd P (asking_of t) (Image base)
    → storing limits.cache (facts items) t.seat t.number t.path t.version ≡ None
    → IsStore limits (P ++ Answered t.seat t.number (Image base) ∷ []) space book items
after_unstored limits P space book items t base st ticket may none =
    after_answer limits P space book items t (Image base) st ticket may
    (image_due limits.cache P space book items t base st.told ticket ∙ none)

pub unstored_ending : (limits : Limits) (P : List Step) (space : Space) (book : List Placement)
    (items : List Item)
    (t : TicketParts) (base : ℕ) → IsStore limits P space book items → IsTicket P t
    → storing limits.cache (facts items) t.seat t.number t.path t.version ≡ None
    → ending limits.cache P t (Image base) ≡ Answered t.seat t.number (Image base) ∷ []
unstored_ending limits P space book items t base st ticket none =
    ap (λ ds. Answered t.seat t.number (Image base) ∷ ds)
    (dues_none limits.cache (P ++ Answered t.seat t.number (Image base) ∷ [])
    (image_due limits.cache P space book items t base st.told ticket ∙ none))
