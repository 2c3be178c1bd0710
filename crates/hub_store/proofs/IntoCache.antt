-- A store keeps what it is when an image goes into the cache.
use Rattle.std.proofs.Common.{◌≡◌, ℕ, false}
use Rattle.std.proofs.Common.{List, [], ◌∷◌, ◌++◌, refl, ap, sym, ◌∙◌, subst, arith}
use Rattle.std.proofs.Common.{append_assoc, Some, unwrap_or, append-nil}
use Rattle.std.specs.List.{All}
use Rattle.std.specs.Option.{option_map}
use Rattle.std.proofs.lemmas.List.Elements.{All-cons}
use Rattle.omos_base.specs.Limits.{Counts as Limits}
use Rattle.omos_model.specs.Footprint.{footprint}
use Rattle.omos_model.specs.Names.{Name}
use Rattle.omos_model.specs.Namespace.{Space}
use Rattle.link_model.specs.Module.{LinkedImage}
use Rattle.link_model.specs.Plan.{Plan}
use Rattle.omos_model.specs.declared.placement.Placement.{Placement}
use Rattle.image_cache.specs.Items as held
use Rattle.image_cache.specs.declared.item.Item.{Item}
use Rattle.history_book.specs.Steps.{Ask}
use Rattle.history_book.specs.Told.{namespace_in}
use Rattle.history_book.specs.Told.{note_of, is_answered}
use Rattle.history_book.specs.Cache.{without, base_in, stored_item}
use Rattle.history_book.specs.Due.{due, storing}
use Rattle.history_book.specs.Legal.{MayEnd}
use Rattle.history_book.specs.declared.step.Note.TheVariants.{Image}
use Rattle.history_book.specs.declared.step.Step.{Step}
use Rattle.history_book.specs.declared.step.Step.TheVariants.{Answered, Evicted, Stored}
use Rattle.history_book.proofs.Grow.{namespace_stays}
use Rattle.history_book.proofs.Legality.{due_push_two, legal_push_two}
use Rattle.history_book.proofs.Legality.{legal_push_three, dues_one, dues_two}
use Rattle.history_book.proofs.Numbers.{ask_stays}
use Rattle.history_book.proofs.Numbered.{numbered_other}
use Rattle.history_book.proofs.Rooms.{other_fits, answered_fits}
use Rattle.history_book.proofs.Endings.{note_now}
use Rattle.hub_store.specs.Keeps.{IsStore, AreTold, fact_of, facts, IsKeptItem}
use Rattle.hub_store.specs.Parts.{TicketParts, IsTicket, asking_of}
use Rattle.hub_store.specs.Links.{IsImageFor, ending}
use Rattle.hub_store.proofs.Facts.{facts_without, All-without}
use Rattle.hub_store.proofs.Kept.{all_kept, own_current, version_grows}
use Rattle.hub_store.proofs.Requests.{plain_push, below_same}
use Rattle.hub_store.proofs.Links.{ticket_below}
use Rattle.hub_store.proofs.Ended.{answered_told, image_due}

-- ---- storing

base_now : (P more : List Step) (seat n base : ℕ) → is_answered P n ≡ false
    → base_in (note_of ((P ++ Answered seat n (Image base) ∷ []) ++ more) n) ≡ base
base_now P more seat n base un =
    ap (λ H. base_in (note_of H n)) (append_assoc P (Answered seat n (Image base) ∷ []) more)
    ∙ ap base_in (note_now P more seat n (Image base) un)

-- the item of the image that ends the link request
abbrev pub item_for : TicketParts → LinkedImage → Item
item_for t l = record { number = t.number; version = t.version; current_at = t.version; image = l }

listed_later : (P more : List Step) (t : TicketParts) (l : LinkedImage) → IsTicket P t
    → footprint t.space t.path ≡ Some l.footprint
    → footprint (namespace_in (P ++ more) t.version) t.path ≡ Some l.footprint
listed_later P more t l ticket listed =
    ap (λ ns. footprint ns t.path) (namespace_stays P more t.version ticket.within
    ∙ sym ticket.space) ∙ listed

item_told : (P more : List Step) (t : TicketParts) (l : LinkedImage) (plan : Plan) → IsTicket P t
    → IsImageFor P t l plan
    → fact_of (item_for t l)
    ≡ stored_item ((P ++ Answered t.seat t.number (Image l.base) ∷ []) ++ more) (asking_of t)
item_told P more t l plan ticket image =
    let a : Step = Answered t.seat t.number (Image l.base) in
    let listed =
    ap (λ o. unwrap_or o [])
    (ap (λ Q. footprint (namespace_in Q t.version) t.path) (append_assoc P (a ∷ []) more)
    ∙ listed_later P (a ∷ more) t l ticket image.listed) in
    let base = base_now P more t.seat t.number l.base ticket.here.waits in
    λ i. record {
      number = t.number;
      path = image.path i;
      version = t.version;
      footprint = sym listed i;
      base = sym base i;
    }

item_kept : (P more : List Step) (t : TicketParts) (l : LinkedImage) (plan : Plan) → IsTicket P t
    → IsImageFor P t l plan
    → IsKeptItem (P ++ more) (item_for t l)
item_kept P more t l plan ticket image =
    let read : footprint (namespace_in (P ++ more) t.version) l.path ≡ Some l.footprint =
    ap (footprint (namespace_in (P ++ more) t.version)) image.path
    ∙ listed_later P more t l ticket image.listed in
    record {
      read = read;
      asked = omega (arith, ticket.within, version_grows P more);
      current = own_current (namespace_in (P ++ more) t.version) l.path l.footprint read;
      found = omega (arith, ticket.within, version_grows P more);
    }

-- an item that is stored without another that goes for it
pub after_stored : (limits : Limits) (P : List Step) (space : Space) (book : List Placement)
    (items : List Item)
    (t : TicketParts) (l : LinkedImage) (plan : Plan) → IsStore limits P space book items
    → IsTicket P t
    → IsImageFor P t l plan → MayEnd P (asking_of t) (Image l.base)
    → storing limits.cache (facts items) t.seat t.number t.path t.version
    ≡ Some (Stored t.seat t.number t.path t.version)
    → IsStore limits
    ((P ++ Answered t.seat t.number (Image l.base) ∷ []) ++ Stored t.seat t.number t.path
    t.version ∷ [])
    space book (item_for t l ∷ held.without_path l.path items)
after_stored limits P space book items t l plan st ticket image may due_is =
    let a : Step = Answered t.seat t.number (Image l.base) in
    let s : Step = Stored t.seat t.number t.path t.version in
    let Q : List Step = P ++ a ∷ [] in
    let told = answered_told P space book items t (Image l.base) st.told ticket in
    let left : List Item = item_for t l ∷ held.without_path l.path items in
    let number =
    below_same Q s t.number
    (below_same P a t.number (ticket_below P t st.told.numbered ticket)) in
    let cache : facts left ≡ stored_item Q (asking_of t) ∷ without t.path (facts items) =
    ap (λ i. i ∷ facts (held.without_path l.path items)) (item_told P [] t l plan ticket image
    ∙ ap (λ R. stored_item R (asking_of t)) (append-nil Q))
    ∙ ap (λ is. stored_item Q (asking_of t) ∷ is) (facts_without l.path items
    ∙ ap (λ p. without p (facts items)) image.path) in
    let kept : All (IsKeptItem (Q ++ s ∷ [])) left =
    All-cons (IsKeptItem (Q ++ s ∷ [])) (item_for t l) (held.without_path l.path items)
    (subst (λ R. IsKeptItem R (item_for t l)) (sym (append_assoc P (a ∷ []) (s ∷ [])))
    (item_kept P (a ∷ s ∷ []) t l plan ticket image))
    (All-without (IsKeptItem (Q ++ s ∷ [])) l.path items (all_kept Q (s ∷ []) items told.kept)) in
    let fits =
    answered_fits limits.steps P (asking_of t) t.seat (Image l.base) st.fits ticket.here in
    record {
      legal = legal_push_two limits.cache limits.steps P a s st.legal
          (t.path, t.version, ticket.here, may)
          (image_due limits.cache P space book items t l.base st.told ticket ∙ due_is)
          (due_push_two limits.cache P a s);
      told = plain_push Q space book items left s told refl refl cache kept
          (numbered_other Q s told.numbered number refl refl);
      fits = other_fits 0 limits.steps Q s refl (omega arith);
    }

pub stored_ending : (limits : Limits) (P : List Step) (space : Space) (book : List Placement)
    (items : List Item)
    (t : TicketParts) (base : ℕ) → IsStore limits P space book items → IsTicket P t
    → storing limits.cache (facts items) t.seat t.number t.path t.version
    ≡ Some (Stored t.seat t.number t.path t.version)
    → ending limits.cache P t (Image base)
    ≡ Answered t.seat t.number (Image base) ∷ Stored t.seat t.number t.path t.version ∷ []
stored_ending limits P space book items t base st ticket due_is =
    let a : Step = Answered t.seat t.number (Image base) in
    let s : Step = Stored t.seat t.number t.path t.version in
    ap (λ ds. a ∷ ds) (dues_one limits.cache (P ++ a ∷ []) s
    (image_due limits.cache P space book items t base st.told ticket ∙ due_is)
    (due_push_two limits.cache P a s))

stored_next : (c : ℕ) (P : List Step) (t : TicketParts) (base : ℕ) (last : Name) → IsTicket P t
    → due c ((P ++ Answered t.seat t.number (Image base) ∷ []) ++ Evicted t.seat t.number last ∷ [])
    ≡ Some (Stored t.seat t.number t.path t.version)
stored_next c P t base last ticket =
    let a : Step = Answered t.seat t.number (Image base) in
    let e : Step = Evicted t.seat t.number last in
    due_push_two c P a e
    ∙ ap (option_map (λ (x : Ask). Stored t.seat t.number x.path x.version))
    (ask_stays (P ++ a ∷ []) (e ∷ []) t.number (asking_of t)
    (ask_stays P (a ∷ []) t.number (asking_of t) ticket.here.asked))

-- an item that is stored in place of the last one
pub after_evicting : (limits : Limits) (P : List Step) (space : Space) (book : List Placement)
    (items : List Item)
    (t : TicketParts) (l : LinkedImage) (plan : Plan) (last : Name)
    → IsStore limits P space book items → IsTicket P t
    → IsImageFor P t l plan → MayEnd P (asking_of t) (Image l.base)
    → storing limits.cache (facts items) t.seat t.number t.path t.version
    ≡ Some (Evicted t.seat t.number last)
    → IsStore limits
    (((P ++ Answered t.seat t.number (Image l.base) ∷ []) ++ Evicted t.seat t.number last ∷ [])
    ++ Stored t.seat t.number t.path t.version ∷ [])
    space book (item_for t l ∷ held.without_path l.path (held.without_path last items))
after_evicting limits P space book items t l plan last st ticket image may due_is =
    let a : Step = Answered t.seat t.number (Image l.base) in
    let e : Step = Evicted t.seat t.number last in
    let s : Step = Stored t.seat t.number t.path t.version in
    let Q : List Step = P ++ a ∷ [] in
    let R : List Step = Q ++ e ∷ [] in
    let rest : List Item = held.without_path last items in
    let told = answered_told P space book items t (Image l.base) st.told ticket in
    let below = below_same P a t.number (ticket_below P t st.told.numbered ticket) in
    let after : AreTold R space book rest =
    plain_push Q space book items rest e told refl refl (facts_without last items)
    (All-without (IsKeptItem R) last items (all_kept Q (e ∷ []) items told.kept))
    (numbered_other Q e told.numbered (below_same Q e t.number below) refl refl) in
    let left : List Item = item_for t l ∷ held.without_path l.path rest in
    let number = below_same R s t.number (below_same Q e t.number below) in
    let cache : facts left ≡ stored_item R (asking_of t) ∷ without t.path (facts rest) =
    ap (λ i. i ∷ facts (held.without_path l.path rest)) (item_told P (e ∷ []) t l plan ticket image)
    ∙ ap (λ is. stored_item R (asking_of t) ∷ is) (facts_without l.path rest
    ∙ ap (λ p. without p (facts rest)) image.path) in
    let kept : All (IsKeptItem (R ++ s ∷ [])) left =
    All-cons (IsKeptItem (R ++ s ∷ [])) (item_for t l) (held.without_path l.path rest)
    (subst (λ X. IsKeptItem X (item_for t l))
    (sym (append_assoc Q (e ∷ []) (s ∷ []) ∙ append_assoc P (a ∷ []) (e ∷ s ∷ [])))
    (item_kept P (a ∷ e ∷ s ∷ []) t l plan ticket image))
    (All-without (IsKeptItem (R ++ s ∷ [])) l.path rest (all_kept R (s ∷ []) rest after.kept)) in
    let fits =
    answered_fits limits.steps P (asking_of t) t.seat (Image l.base) st.fits ticket.here in
    record {
      legal = legal_push_three limits.cache limits.steps P a e s st.legal
          (t.path, t.version, ticket.here, may)
          (image_due limits.cache P space book items t l.base st.told ticket ∙ due_is)
          (stored_next limits.cache P t l.base last ticket) (due_push_two limits.cache Q e s);
      told = plain_push R space book rest left s after refl refl cache kept
          (numbered_other R s after.numbered number refl refl);
      fits = other_fits 0 limits.steps R s refl (other_fits 1 limits.steps Q e refl fits);
    }

pub evicting_ending : (limits : Limits) (P : List Step) (space : Space) (book : List Placement)
    (items : List Item)
    (t : TicketParts) (base : ℕ) (last : Name) → IsStore limits P space book items → IsTicket P t
    → storing limits.cache (facts items) t.seat t.number t.path t.version
    ≡ Some (Evicted t.seat t.number last)
    → ending limits.cache P t (Image base)
    ≡ Answered t.seat t.number (Image base) ∷ Evicted t.seat t.number last
    ∷ Stored t.seat t.number t.path t.version ∷ []
evicting_ending limits P space book items t base last st ticket due_is =
    let a : Step = Answered t.seat t.number (Image base) in
    let e : Step = Evicted t.seat t.number last in
    let s : Step = Stored t.seat t.number t.path t.version in
    ap (λ ds. a ∷ ds) (dues_two limits.cache (P ++ a ∷ []) e s
    (image_due limits.cache P space book items t base st.told ticket ∙ due_is)
    (stored_next limits.cache P t base last ticket))
