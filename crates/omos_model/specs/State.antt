-- What a reference is at the top of a module, and what it lands on in a whole program.
use Rattle.std.specs.Prelude.{ℕ, ◌==◌, Bool, false, if◌then◌else◌, List, [], ◌∷◌, ◌++◌, map, Option}
use Rattle.std.specs.Prelude.{Some, None}
use Rattle.std.specs.List.{list_any, slice_get}
use Rattle.std.specs.Option.{option_map, option_or}
use Rattle.omos_model.specs.Names.{Name, same_name}
use Rattle.omos_model.specs.NameLists.{is_among}
use Rattle.omos_model.specs.Op.{Op, Rename, Restrict, Freeze, Hide, Show, CopyAs}
use Rattle.omos_model.specs.Term.{Term, Leaf, Merge, Override, Apply}
use Rattle.omos_model.specs.Definition.{Meaning, target_of, definition}
use Rattle.omos_model.specs.declared.entry.Entry.TheVariants.{Object}
use Rattle.omos_model.specs.declared.fragment.Aim.{Aim}
use Rattle.omos_model.specs.declared.fragment.Aim.TheVariants as aim
use Rattle.omos_model.specs.declared.fragment.Fixup.{Fixup}
use Rattle.omos_model.specs.declared.mark.Target.{Target}
use Rattle.omos_model.specs.declared.mark.Mark.{Mark}
use Rattle.omos_model.specs.declared.mark.Mark.TheVariants.{Bound, Open}
use Rattle.omos_model.specs.declared.mark.MarkRow.{MarkRow}
use Rattle.omos_model.specs.declared.mark.Landing.{Landing}
use Rattle.omos_model.specs.declared.mark.Landing.TheVariants.{On, Nothing}

-- ---- one reference

-- at its leaf a reference to a spot is bound, and one to a name is open under it
abbrev pub mark_of : ℕ → Aim → Mark
mark_of leaf (aim.At s) = Bound (target_of leaf s)
mark_of leaf (aim.Name name weak) = Open name

-- open x where it has a definition, and what it is then
abbrev pub bound_to : Option Target → Name → Mark
bound_to (Some d) x = Bound d
bound_to None x = Open x

-- what an operator makes of a reference that is open under x
abbrev pub opened_by : Op → Meaning → Name → Mark
opened_by (Rename a b) u x = if same_name a x then Open b else Open x
opened_by (Restrict a) u x = Open x
opened_by (Freeze a) u x = if same_name a x then bound_to (u a) x else Open x
opened_by (Hide a) u x = if same_name a x then bound_to (u a) x else Open x
opened_by (Show names) u x = if is_among names x then Open x else bound_to (u x) x
opened_by (CopyAs a b) u x = Open x

-- a reference that was bound stays bound
abbrev pub marked_by : Op → Meaning → Mark → Mark
marked_by op u (Bound d) = Bound d
marked_by op u (Open x) = opened_by op u x

abbrev pub mark_at : ℕ → List Fixup → ℕ → Option Mark
mark_at leaf fixups k = option_map (λ x. mark_of leaf x.aim) (slice_get fixups k)

-- what fixup k of a leaf is at the top of a module, if it is there
abbrev pub state : Term → ℕ → ℕ → Option Mark
state (Leaf s number f) leaf k = if leaf == number then mark_at number f.fixups k else None
state (Merge s l r) leaf k = option_or (state l leaf k) (state r leaf k)
state (Override s l r) leaf k = option_or (state l leaf k) (state r leaf k)
state (Apply s op u) leaf k = option_map (marked_by op (definition u)) (state u leaf k)

-- ---- at the root

abbrev pub landed_at : Option Target → Name → Landing
landed_at (Some d) x = On d
landed_at None x = Nothing x

-- a name that is still open is bound to its definition, or to nothing
abbrev pub landed : Meaning → Mark → Landing
landed u (Bound d) = On d
landed u (Open x) = landed_at (u x) x

-- what fixup k of a leaf lands on, if it is there
abbrev pub landing : Term → ℕ → ℕ → Option Landing
landing t leaf k = option_map (landed (definition t)) (state t leaf k)

-- ---- all references

abbrev pub remarked : (Mark → Mark) → MarkRow → MarkRow
remarked f r = record r { marks = map f r.marks }

-- the leaves from left to right, each with what its fixups are at the top
abbrev pub states : Term → List MarkRow
states (Leaf s leaf f) =
    record { number = leaf; entry = Object f; marks = map (λ x. mark_of leaf x.aim) f.fixups } ∷ []
states (Merge s l r) = states l ++ states r
states (Override s l r) = states l ++ states r
states (Apply s op u) = map (remarked (marked_by op (definition u))) (states u)

-- fixup k of a leaf, in a row and in a list of rows
abbrev pub in_row : MarkRow → ℕ → ℕ → Option Mark
in_row r leaf k = if leaf == r.number then slice_get r.marks k else None

abbrev pub in_rows : List MarkRow → ℕ → ℕ → Option Mark
in_rows [] leaf k = None
in_rows (r ∷ rows) leaf k = option_or (in_row r leaf k) (in_rows rows leaf k)

abbrev pub is_open_as : Name → Mark → Bool
is_open_as x (Open y) = same_name x y
is_open_as x (Bound d) = false

abbrev pub is_open_in : List MarkRow → Name → Bool
is_open_in rows x = list_any (λ r. list_any (is_open_as x) r.marks) rows

-- some fixup of a leaf is open under x
abbrev pub is_open : Term → Name → Bool
is_open t x = is_open_in (states t) x
