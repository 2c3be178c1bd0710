-- Where the pieces and the slots of a program stand, counted from its base.
use Rattle.std.specs.Prelude.{ℕ, ◌+◌, ◌-◌, ◌*◌, ◌/◌, ◌==◌, Bool, true, false, List, [], ◌∷◌}
use Rattle.std.specs.Prelude.{◌++◌, length, fold, map, if◌then◌else◌, max}
use Rattle.std.specs.Prelude.{filter}
use Rattle.std.specs.List.{flat_map, list_any, position_or_len}
use Rattle.omos_model.specs.declared.fragment.Group.{Group}
use Rattle.omos_model.specs.declared.fragment.Group.TheVariants.{Code, Consts, Vars, Zeros}
use Rattle.omos_model.specs.declared.fragment.Kind.{Kind}
use Rattle.omos_model.specs.declared.fragment.Kind.TheVariants.{GotPcRel, GotPcRelX, RexGotPcRelX}
use Rattle.omos_model.specs.declared.fragment.Piece.{Piece}
use Rattle.omos_model.specs.declared.mark.Landing.{Landing}
use Rattle.omos_model.specs.declared.mark.Landing.TheVariants.{On, Nothing}
use Rattle.omos_model.specs.declared.mark.Target.{Target}
use Rattle.omos_model.specs.declared.mark.Target.TheVariants.{Inside, Fixed}
use Rattle.link_model.specs.Program.{Parts, references}

abbrev pub page : ℕ
page = 4096

abbrev pub pages_of : ℕ → ℕ
pages_of size = (size + 4095) / page

-- the next offset that the alignment divides
abbrev pub aligned : ℕ → ℕ → ℕ
aligned align offset = (offset + (align - 1)) / align * align

abbrev pub same_group : Group → Group → Bool
same_group Code Code = true
same_group Consts Consts = true
same_group Vars Vars = true
same_group Zeros Zeros = true
same_group _ _ = false

-- ---- pieces: in a group by leaf, then by number, each at the next offset that its alignment
-- divides

-- the pieces of all objects, by leaf, then by number
abbrev pub program_pieces : Parts → List Piece
program_pieces parts = flat_map (λ x. x.object.pieces) parts

-- where a piece of the group begins that follows this offset
abbrev pub begin_of : ℕ → Piece → ℕ
begin_of end p = aligned p.align end

-- where the group ends once the piece is laid
abbrev pub end_with : Group → ℕ → Piece → ℕ
end_with g end p = if same_group g p.group then begin_of end p + p.size else end

-- where a group ends that has these pieces
abbrev pub end_of : Group → List Piece → ℕ
end_of g pieces = fold (end_with g) 0 pieces

-- ---- slots: 8 bytes for each distinct target of a GOT fixup, in order of first use

abbrev pub is_got : Kind → Bool
is_got GotPcRel = true
is_got GotPcRelX = true
is_got RexGotPcRelX = true
is_got _ = false

-- what is bound to nothing counts as the address 0
abbrev pub target_at : Landing → Target
target_at (On target) = target
target_at (Nothing name) = Fixed 0

abbrev pub same_target : Target → Target → Bool
same_target (Inside a b c) (Inside x y z) = if a == x then (if b == y then c == z else false)
    else false
same_target (Fixed a) (Fixed x) = a == x
same_target _ _ = false

abbrev pub is_slot : List Target → Target → Bool
is_slot slots target = list_any (same_target target) slots

abbrev pub with_slot : List Target → Target → List Target
with_slot slots target = if is_slot slots target then slots else slots ++ target ∷ []

abbrev pub slots_of : Parts → List Target
slots_of parts =
    fold with_slot []
    (map (λ r. target_at r.landing) (filter (λ r. is_got r.fixup.kind) (references parts)))

-- the number of a target's slot
abbrev pub slot_number : List Target → Target → ℕ
slot_number slots target = position_or_len (same_target target) slots

-- ---- groups

-- the slots follow the pieces of Vars, at the next multiple of 8
abbrev pub end_with_slots : ℕ → List Target → ℕ
end_with_slots end [] = end
end_with_slots end (t ∷ ts) = aligned 8 end + 8 * length (t ∷ ts)

-- a group's size is the end of its last piece or slot
abbrev pub group_size : Group → Parts → ℕ
group_size Vars parts = end_with_slots (end_of Vars (program_pieces parts)) (slots_of parts)
group_size g parts = end_of g (program_pieces parts)

abbrev pub group_pages : Group → Parts → ℕ
group_pages g parts = pages_of (group_size g parts)

-- each group begins where the pages of the one before end
abbrev pub group_begin : Group → Parts → ℕ
group_begin Code parts = 0
group_begin Consts parts = page * group_pages Code parts
group_begin Vars parts = page * (group_pages Code parts + group_pages Consts parts)
group_begin Zeros parts =
    page * (group_pages Code parts + group_pages Consts parts + group_pages Vars parts)

abbrev pub all_pages : Parts → ℕ
all_pages parts =
    group_pages Code parts + group_pages Consts parts + group_pages Vars parts + group_pages Zeros
    parts

-- a program has a page at least
abbrev pub pages_in_all : Parts → ℕ
pages_in_all parts = max 1 (all_pages parts)

-- ---- places

-- where a piece stands, behind the pieces before it
abbrev pub place_of : Parts → List Piece → Piece → ℕ
place_of parts before p = group_begin p.group parts + begin_of (end_of p.group before) p

-- where each piece stands, given those before
abbrev pub places_behind : Parts → List Piece → List Piece → List ℕ
places_behind parts before [] = []
places_behind parts before (p ∷ ps) =
    place_of parts before p ∷ places_behind parts (before ++ p ∷ []) ps

abbrev pub places_from : Parts → List Piece → Parts → List (List ℕ)
places_from parts before [] = []
places_from parts before (x ∷ xs) =
    places_behind parts before x.object.pieces ∷ places_from parts (before ++ x.object.pieces) xs

-- where the pieces of each leaf stand
abbrev pub places_of : Parts → List (List ℕ)
places_of parts = places_from parts [] parts

-- where the slots begin
abbrev pub slots_begin : Parts → ℕ
slots_begin parts = group_begin Vars parts + aligned 8 (end_of Vars (program_pieces parts))
