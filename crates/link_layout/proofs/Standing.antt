-- Where pieces stand, one more at a time.
use Rattle.std.proofs.Common.{◌≡◌, ℕ, ◌+◌, ◌<◌, List, [], ◌∷◌, ◌++◌, length, get_or, take, sym, ap}
use Rattle.std.proofs.Common.{◌∙◌}
use Rattle.std.proofs.lemmas.List.{append-nil, append_assoc, take_more}
use Rattle.std.proofs.lemmas.List.Concat.{flat_map-append}
use Rattle.omos_model.specs.declared.entry.Entry.{Entry}
use Rattle.omos_model.specs.declared.fragment.Piece.{Piece}
use Rattle.link_model.specs.Program.{Parts}
use Rattle.link_model.specs.Layout.{begin_of, place_of, places_behind}
use Rattle.link_model.specs.declared.groups.ByGroup.{ByGroup}
use Rattle.link_model.specs.Groups.{bytes_of}
use Rattle.link_layout.specs.Layout.{AreBegins, AreEnds, places_over}
use Rattle.link_layout.specs.Pieces.{all_pieces, pieces_in}

-- what a loop has come to, and the next
pub take_next : {X : Type 0} (xs : List X) (i : ℕ) (x : X)
    → i < length xs → x ≡ get_or xs i x → take (i + 1) xs ≡ take i xs ++ x ∷ []
take_next xs i x h read = take_more xs i x h ∙ ap (λ y. take i xs ++ y ∷ []) (sym read)

pub places_behind-push : (parts : Parts) (before ps : List Piece) (p : Piece)
    → places_behind parts before (ps ++ p ∷ [])
    ≡ places_behind parts before ps ++ place_of parts (before ++ ps) p ∷ []
places_behind-push parts before [] p = ap (λ b. place_of parts b p ∷ []) (sym (append-nil before))
places_behind-push parts before (q ∷ ps) p =
    ap (λ r. place_of parts before q ∷ r) (places_behind-push parts (before ++ q ∷ []) ps p)
    ∙ ap (λ b. place_of parts before q
    ∷ (places_behind parts (before ++ q ∷ []) ps ++ place_of parts b p ∷ []))
    (append_assoc before (q ∷ []) ps)

-- a piece that begins where its group ends stands at its place
pub placed : (parts : Parts) (before : List Piece) (begins ends : ByGroup) (p : Piece) (begin : ℕ)
    → AreBegins begins parts → AreEnds ends before → begin ≡ begin_of (bytes_of ends p.group) p
    → bytes_of begins p.group + begin ≡ place_of parts before p
placed parts before begins ends p begin starts are is =
    (λ i. starts p.group i + (is ∙ ap (λ end. begin_of end p) (are p.group)) i)

pub all_pieces-push : (xs : List Entry) (x : Entry)
    → all_pieces (xs ++ x ∷ []) ≡ all_pieces xs ++ pieces_in x
all_pieces-push xs x =
    flat_map-append pieces_in xs (x ∷ [])
    ∙ ap (λ ps. all_pieces xs ++ ps) (append-nil (pieces_in x))

pub places_over-push : (parts : Parts) (before : List Piece) (xs : List Entry) (x : Entry)
    → places_over parts before (xs ++ x ∷ [])
    ≡ places_over parts before xs ++ places_behind parts (before ++ all_pieces xs) (pieces_in x)
    ∷ []
places_over-push parts before [] x =
    ap (λ b. places_behind parts b (pieces_in x) ∷ []) (sym (append-nil before))
places_over-push parts before (y ∷ xs) x =
    ap (λ r. places_behind parts before (pieces_in y) ∷ r)
    (places_over-push parts (before ++ pieces_in y) xs x)
    ∙ ap (λ b. places_behind parts before (pieces_in y)
    ∷ (places_over parts (before ++ pieces_in y) xs ++ places_behind parts b (pieces_in x) ∷ []))
    (append_assoc before (pieces_in y) (all_pieces xs))
