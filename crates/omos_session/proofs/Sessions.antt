-- A session that goes on, and how it ends.
use Rattle.std.proofs.Common.{◌≡◌, ℕ, Bool, ◌+◌, ◌-◌, ◌*◌, ◌≤◌, ◌<◌, List, [], ◌∷◌, ◌++◌, length}
use Rattle.std.proofs.Common.{map, take, refl, sym, ap, subst, ◌∙◌, arith, append_assoc, append-nil}
use Rattle.std.proofs.Common.{length-append, Option, None, Some}
use Rattle.std.specs.List.{AllByRecursion, flat_map}
use Rattle.std.specs.Io.KnownBytes.{Appends}
use Rattle.omos_outside.specs.Stream.{Stream, Gives}
use Rattle.history_book.specs.Legal.{IsLegal}
use Rattle.omos_outside.proofs.Known.{Appends-then, Gives-then, Gives-nil}
use Rattle.omos_wire.specs.Answer.{Answer, reply_frame}
use Rattle.omos_wire.specs.Found.{Took}
use Rattle.omos_wire.specs.Message.{Message, End, frame, HasFrame}
use Rattle.omos_outside.specs.Sent.{WrotePart}
use Rattle.omos_wire.specs.Sight.{sight, Short}
use Rattle.omos_wire.specs.Stream.{Starts, Held}
use Rattle.omos_session.specs.inside.Parts.{Replied, Serves}
use Rattle.omos_session.specs.Session.{IsSession, frames, reply_bytes}
use Rattle.omos_session.specs.inside.Parts.{Going}
use Rattle.omos_hub.specs.Standing.{Standing, Went, misses}
use Rattle.omos_session.specs.Talk.{IsTold, Row, turns_of, row_with}
use Rattle.omos_hub.specs.Turns.{Turn}
use Rattle.omos_session.specs.declared.session.SessionEnd.TheVariants as ending
use Rattle.omos_session.proofs.Going.{went_none, went_then}
use Rattle.omos_session.proofs.Moves.{misses-append}

-- ---- lists

flat_map_last : {A B : Type 0} → (f : A → List B) (xs : List A) (x : A)
    → flat_map f (xs ++ x ∷ []) ≡ flat_map f xs ++ f x
flat_map_last f [] x = append-nil (f x)
flat_map_last f (y ∷ ys) x = ap (λ s. f y ++ s) (flat_map_last f ys x)
    ∙ sym (append_assoc (f y) (flat_map f ys) (f x))

map_last : {A B : Type 0} → (f : A → B) (xs : List A) (x : A)
    → map f (xs ++ x ∷ []) ≡ map f xs ++ f x ∷ []
map_last f [] x = refl
map_last f (y ∷ ys) x = ap (λ s. f y ∷ s) (map_last f ys x)

all_last : {A : Type 0} → (P : A → Type 0) (xs : List A) (x : A) → AllByRecursion P xs → P x
    → AllByRecursion P (xs ++ x ∷ [])
all_last P [] x h p = (p, tt)
all_last P (y ∷ ys) x h p = (h.0, all_last P ys x h.1 p)

Appends-nil : (a : Option (List ℕ)) → Appends a a []
Appends-nil None = tt
Appends-nil (Some xs) = sym (append-nil xs)

-- ---- a frame more

starts_then : (taken : List ℕ) (fs : List Message) (m : Message) (waiting rest : List ℕ)
    → Starts taken fs waiting → waiting ≡ frame m ++ rest → HasFrame m
    → Starts taken (fs ++ m ∷ []) rest
starts_then taken fs m waiting rest starts here fits = record {
  whole =
      starts.whole ∙ ap (λ (s : List ℕ). flat_map frame fs ++ s) here
      ∙ sym (append_assoc (flat_map frame fs) (frame m) rest)
      ∙ ap (λ (s : List ℕ). s ++ rest) (sym (flat_map_last frame fs m));
  each = all_last HasFrame fs m starts.each fits;
}

starts_more : (taken bytes : List ℕ) (fs : List Message) (waiting : List ℕ)
    → Starts taken fs waiting → Starts (taken ++ bytes) fs (waiting ++ bytes)
starts_more taken bytes fs waiting starts = record {
  whole = ap (λ (s : List ℕ). s ++ bytes) starts.whole
      ∙ append_assoc (flat_map frame fs) waiting bytes;
  each = starts.each;
}

-- the row of a frame that was served
abbrev row_for : (alone : Bool) (old new : Standing) (m : Message) (a : Answer)
    → Serves alone old new m a → Row
row_for alone old new m a s = row_with m s.turns a

told_row : (old mid new : Standing) (alone : Bool) (m : Message) (a : Answer)
    (s : Serves alone mid new m a) → mid.seat ≡ old.seat → mid.room ≡ old.room
    → IsTold old.room old.seat (row_with m s.turns a)
told_row old mid new alone m a s seat room =
    record { told = rw (← seat, ← room) s.told; few = s.few }

went_row : (alone : Bool) (old mid new : Standing) (rows : List Row) (m : Message) (a : Answer)
    (s : Serves alone mid new m a)
    → Went alone old mid (turns_of rows) (misses (turns_of rows))
    → Went alone old new (turns_of (rows ++ row_with m s.turns a ∷ []))
    (misses (turns_of (rows ++ row_with m s.turns a ∷ [])))
went_row alone old mid new rows m a s went =
    let more : turns_of (rows ++ row_with m s.turns a ∷ []) ≡ turns_of rows ++ s.turns =
    flat_map_last (λ (r : Row). r.turns) rows (row_with m s.turns a) in
    subst (λ (ts : List Turn). Went alone old new ts (misses ts)) (sym more)
    (subst (Went alone old new (turns_of rows ++ s.turns))
    (sym (misses-append (turns_of rows) s.turns))
    (went_then alone old mid new (turns_of rows) s.turns (misses (turns_of rows)) (misses s.turns)
    went s.went))

pub going_start : (alone : Bool) (old : Standing) (told : Option Stream) (held : Option (List ℕ))
    → IsLegal old.cache old.room old.steps → Going alone old old told told held held 0 0 []
going_start alone old told held legal = record {
  rows = [];
  taken = [];
  went = went_none alone old legal;
  rows_told = tt;
  read = Gives-nil told;
  starts = record { whole = refl; each = tt };
  at = refl;
  wrote = Appends-nil held;
  none_ended = tt;
  counted = refl;
}

pub going_fed : (alone : Bool) (old new : Standing) (told told' told'' : Option Stream)
    (held held' : Option (List ℕ)) (place count : ℕ) (waiting bytes : List ℕ)
    → Going alone old new told told' held held' place count waiting → Gives told' told'' bytes
    → Going alone old new told told'' held held' place count (waiting ++ bytes)
going_fed alone old new told told' told'' held held' place count waiting bytes going more = record {
  rows = going.rows;
  taken = going.taken ++ bytes;
  went = going.went;
  rows_told = going.rows_told;
  read = Gives-then told told' told'' going.taken bytes going.read more;
  starts = starts_more going.taken bytes (frames going.rows) waiting going.starts;
  at = going.at;
  wrote = going.wrote;
  none_ended = going.none_ended;
  counted = going.counted;
}

-- what one row more leaves: all but that it may be the end
record Further (alone : Bool) (old new : Standing) (held held' : Option (List ℕ)) (taken : List ℕ)
    (rows : List Row) (place count : ℕ) (waiting : List ℕ) : Type 0 where
  went : Went alone old new (turns_of rows) (misses (turns_of rows))
  rows_told : AllByRecursion (IsTold old.room old.seat) rows
  starts : Starts taken (frames rows) waiting
  at : place ≡ length (flat_map frame (frames rows))
  wrote : Appends held held' (reply_bytes rows)
  counted : count ≡ length rows

further : (alone : Bool) (old mid new : Standing) (told told' : Option Stream)
    (held held' held'' : Option (List ℕ)) (count : ℕ) (before after : Held) (m : Message)
    → (going : Going alone old mid told told' held held' before.place count before.waiting)
    → Took before m after
    → (r : Replied alone mid new m held' held'')
    → Further alone old new held held'' going.taken
    (going.rows ++ row_with m r.serves.turns r.reply ∷ []) after.place (count + 1) after.waiting
further alone old mid new told told' held held' held'' count before after m going took r =
    let row : Row = row_with m r.serves.turns r.reply in
    let one : frames (going.rows ++ row ∷ []) ≡ frames going.rows ++ m ∷ [] =
    map_last (λ (x : Row). x.frame) going.rows row in
    let starts =
    starts_then going.taken (frames going.rows) m before.waiting after.waiting going.starts
    took.bytes took.fits in
    let bytes : flat_map frame (frames (going.rows ++ row ∷ []))
    ≡ flat_map frame (frames going.rows) ++ frame m =
    ap (flat_map frame) one ∙ flat_map_last frame (frames going.rows) m in
    record {
      went = went_row alone old mid new going.rows m r.reply r.serves going.went;
      rows_told =
          all_last (IsTold old.room old.seat) going.rows row going.rows_told
          (told_row old mid new alone m r.reply r.serves going.went.seat going.went.room);
      starts = subst (λ (fs : List Message). Starts going.taken fs after.waiting) (sym one) starts;
      at = omega (
        arith,
        took.place,
        going.at,
        ap length bytes,
        length-append (flat_map frame (frames going.rows)) (frame m),
      );
      wrote = subst (λ (s : List ℕ). Appends held held'' s)
          (sym (flat_map_last (λ (x : Row). reply_frame x.reply) going.rows row))
          (Appends-then held held' held'' (reply_bytes going.rows) (reply_frame r.reply) going.wrote
          r.wrote);
      counted = omega (arith, going.counted, length-append going.rows (row ∷ []));
    }

pub going_row : (alone : Bool) (old mid new : Standing) (told told' : Option Stream)
    (held held' held'' : Option (List ℕ)) (count : ℕ) (before after : Held) (m : Message)
    → Going alone old mid told told' held held' before.place count before.waiting
    → Took before m after
    → Replied alone mid new m held' held'' → (m ≡ End → ⊥)
    → Going alone old new told told' held held'' after.place (count + 1) after.waiting
going_row alone old mid new told told' held held' held'' count before after m going took r goes_on =
    let f = further alone old mid new told told' held held' held'' count before after m going took
    r in
    record {
      rows = going.rows ++ row_with m r.serves.turns r.reply ∷ [];
      taken = going.taken;
      went = f.went;
      rows_told = f.rows_told;
      read = going.read;
      starts = f.starts;
      at = f.at;
      wrote = f.wrote;
      none_ended =
          all_last (λ (x : Row). x.frame ≡ End → ⊥) going.rows (row_with m r.serves.turns r.reply)
          going.none_ended goes_on;
      counted = f.counted;
    }

-- ---- ends

pub session_ended : (alone : Bool) (old mid new : Standing) (told told' : Option Stream)
    (held held' held'' : Option (List ℕ)) (count : ℕ) (before after : Held) (m : Message)
    → Going alone old mid told told' held held' before.place count before.waiting
    → Took before m after
    → Replied alone mid new m held' held'' → m ≡ End → count < 65536
    → IsSession alone old new told told' held held'' ending.Ended
session_ended alone old mid new told told' held held' held'' count before after m going took r last
    few =
    let f = further alone old mid new told told' held held' held'' count before after m going took
    r in
    let row : Row = row_with m r.serves.turns r.reply in
    record {
      rows = going.rows ++ row ∷ [];
      taken = going.taken;
      written = reply_bytes (going.rows ++ row ∷ []);
      went = f.went;
      rows_told = f.rows_told;
      read = going.read;
      answers = (
        going.rows,
        row,
        after.waiting,
        record { split = refl; none_before = going.none_ended },
        last,
        f.starts,
      );
      wrote = f.wrote;
      writes = refl;
      few = omega (arith, f.counted, few);
    }

pub session_cut_off : (alone : Bool) (old mid new : Standing) (told told' : Option Stream)
    (held held' held'' : Option (List ℕ)) (count : ℕ) (before after : Held) (m : Message)
    → Going alone old mid told told' held held' before.place count before.waiting
    → Took before m after
    → (reply : Answer) → Serves alone mid new m reply → WrotePart held' held'' (reply_frame reply)
    → count < 65536
    → IsSession alone old new told told' held held'' ending.WriteFault
session_cut_off alone old mid new told told' held held' held'' count before after m going took reply
    serves part few =
    let row : Row = row_with m serves.turns reply in
    let one : frames (going.rows ++ row ∷ []) ≡ frames going.rows ++ m ∷ [] =
    map_last (λ (x : Row). x.frame) going.rows row in
    let starts =
    starts_then going.taken (frames going.rows) m before.waiting after.waiting going.starts
    took.bytes took.fits in
    record {
      rows = going.rows ++ row ∷ [];
      taken = going.taken;
      written = reply_bytes going.rows ++ take part.0 (reply_frame reply);
      went = went_row alone old mid new going.rows m reply serves going.went;
      rows_told =
          all_last (IsTold old.room old.seat) going.rows row going.rows_told
          (told_row old mid new alone m reply serves going.went.seat going.went.room);
      read = going.read;
      answers = (
        going.rows,
        row,
        after.waiting,
        record { split = refl; none_before = going.none_ended },
        subst (λ (fs : List Message). Starts going.taken fs after.waiting) (sym one) starts,
      );
      wrote = Appends-then held held' held'' (reply_bytes going.rows)
          (take part.0 (reply_frame reply)) going.wrote part.2;
      writes = (going.rows, row, part.0, refl, part.1, refl);
      few = omega (arith, going.counted, length-append going.rows (row ∷ []), few);
    }

pub session_too_many : (alone : Bool) (old new : Standing) (told told' : Option Stream)
    (held held' : Option (List ℕ)) (count : ℕ) (before after : Held) (m : Message)
    → Going alone old new told told' held held' before.place count before.waiting
    → Took before m after → count ≡ 65536
    → IsSession alone old new told told' held held' ending.TooMany
session_too_many alone old new told told' held held' count before after m going took many = record {
  rows = going.rows;
  taken = going.taken;
  written = reply_bytes going.rows;
  went = going.went;
  rows_told = going.rows_told;
  read = going.read;
  answers = (
    going.none_ended,
    sym going.counted ∙ many,
    m,
    after.waiting,
    starts_then going.taken (frames going.rows) m before.waiting after.waiting going.starts
        took.bytes took.fits,
  );
  wrote = going.wrote;
  writes = refl;
  few = omega (arith, going.counted);
}

pub session_unread : (alone : Bool) (old new : Standing) (told told' told'' : Option Stream)
    (held held' : Option (List ℕ)) (count : ℕ) (before : Held)
    → Going alone old new told told' held held' before.place count before.waiting
    → sight before.waiting ≡ Short → Gives told' told'' [] → count ≤ 65536
    → IsSession alone old new told told'' held held' ending.ReadFault
session_unread alone old new told told' told'' held held' count before going short none few =
    record {
      rows = going.rows;
      taken = going.taken;
      written = reply_bytes going.rows;
      went = going.went;
      rows_told = going.rows_told;
      read = subst (λ (s : List ℕ). Gives told told'' s) (append-nil going.taken)
          (Gives-then told told' told'' going.taken [] going.read none);
      answers = (
        going.none_ended,
        length before.waiting,
        record { tail = before.waiting; starts = going.starts; ends = (short, refl) },
      );
      wrote = going.wrote;
      writes = refl;
      few = omega (arith, going.counted, few);
    }

pub session_no_memory : (alone : Bool) (old new : Standing) (told told' told'' : Option Stream)
    (held held' : Option (List ℕ)) (count : ℕ) (before : Held) (bytes : List ℕ)
    → Going alone old new told told' held held' before.place count before.waiting
    → Gives told' told'' bytes → count ≤ 65536
    → IsSession alone old new told told'' held held' ending.NoMemory
session_no_memory alone old new told told' told'' held held' count before bytes going more few =
    record {
      rows = going.rows;
      taken = going.taken ++ bytes;
      written = reply_bytes going.rows;
      went = going.went;
      rows_told = going.rows_told;
      read = Gives-then told told' told'' going.taken bytes going.read more;
      answers = (
        going.none_ended,
        before.waiting ++ bytes,
        starts_more going.taken bytes (frames going.rows) before.waiting going.starts,
      );
      wrote = going.wrote;
      writes = refl;
      few = omega (arith, going.counted, few);
    }

-- ---- the measure

pub one_fewer : (count : ℕ) (waiting rest : List ℕ) → count < 65536
    → (65536 - (count + 1)) * 2097158 + (2097157 - length rest) < (65536 - count) * 2097158
    + (2097157 - length waiting)
one_fewer count waiting rest h = omega arith

pub more_waiting : (count : ℕ) (waiting bytes : List ℕ) → 0 < length bytes
    → length waiting < 2097156
    → (65536 - count) * 2097158 + (2097157 - length (waiting ++ bytes)) < (65536 - count) * 2097158
    + (2097157 - length waiting)
more_waiting count waiting bytes some few = omega (arith, length-append waiting bytes)
