-- What a list that is kept as values and keys has at each place.
use Rattle.std.proofs.Common.{◌≡◌, ℕ, zero, suc, ◌<◌, ◌≤◌, List, [], ◌∷◌, ◌++◌, Option}
use Rattle.std.proofs.Common.{Some, None}
use Rattle.std.proofs.Common.{get_or, length, map, ap, sym, ◌∙◌, refl, arith}
use Rattle.std.specs.List.{cons_option, slice_get}
use Rattle.std.specs.Option.{option_and_then, option_map}
use Rattle.std.proofs.lemmas.List.{length-map}
use Rattle.std.proofs.lemmas.List.Elements.{All-append, All-cons, All-get_or, All-head}
use Rattle.std.proofs.lemmas.List.Elements.{All-nil, All-tail, filter_map-append}
use Rattle.std.proofs.lemmas.Option.{slice_get-get_or, slice_get-map, slice_get_read}
use Rattle.dict_row.specs.Keys.{AreKeys, decoded}

-- what stands below a list's length is there
pub found : {T : Type 0} (values : List T) (key : ℕ) → key < length values
    → (x : T) × (slice_get values key ≡ Some x)
found [] key h = absurd (omega (arith, h))
found (x ∷ values) zero h = (x, refl)
found (x ∷ values) (suc key) h = found values key (omega (arith, h))

-- a place for each key
pub length_decoded : {T : Type 0} (values : List T) (keys : List ℕ) → AreKeys keys (length values)
    → length (decoded values keys) ≡ length keys
unfolding decoded
length_decoded values [] all = refl
length_decoded values (key ∷ keys) all =
    let here = found values key (All-head (λ k. k < length values) key keys all) in
    let behind = length_decoded values keys (All-tail (λ k. k < length values) key keys all) in
    ap (λ o. length (cons_option o (decoded values keys))) here.1 ∙ ap suc behind

-- at each place the value at its key
pub decoded_at : {T : Type 0} (values : List T) (keys : List ℕ) → AreKeys keys (length values)
    → (place : ℕ)
    → slice_get (decoded values keys) place
    ≡ option_and_then (slice_get values) (slice_get keys place)
unfolding decoded
decoded_at values [] all place = refl
decoded_at values (k ∷ keys) all zero =
    let here = found values k (All-head (λ n. n < length values) k keys all) in
    ap (λ o. slice_get (cons_option o (decoded values keys)) 0) here.1 ∙ sym here.1
decoded_at values (k ∷ keys) all (suc place) =
    let here = found values k (All-head (λ n. n < length values) k keys all) in
    ap (λ o. slice_get (cons_option o (decoded values keys)) (suc place)) here.1
    ∙ decoded_at values keys (All-tail (λ n. n < length values) k keys all) place

mapped_option : {X Y : Type 0} (f : X → Y) (o : Option X) (xs : List X)
    → map f (cons_option o xs) ≡ cons_option (option_map f o) (map f xs)
mapped_option f (Some x) xs = refl
mapped_option f None xs = refl

-- what is made of each value is made of each place
pub map_decoded : {X Y : Type 0} (f : X → Y) (values : List X) (keys : List ℕ)
    → map f (decoded values keys) ≡ decoded (map f values) keys
unfolding decoded
map_decoded f values [] = refl
map_decoded f values (key ∷ keys) =
    mapped_option f (slice_get values key) (decoded values keys)
    ∙ ap (λ o. cons_option o (map f (decoded values keys))) (sym (slice_get-map f values key))
    ∙ ap (cons_option (slice_get (map f values) key)) (map_decoded f values keys)

-- the same keys do for what is made of each value
pub keys_of_mapped : {X Y : Type 0} (f : X → Y) (values : List X) (keys : List ℕ)
    → AreKeys keys (length values) → AreKeys keys (length (map f values))
keys_of_mapped f values keys all = rw (length-map values f) all

-- ---- a list that is seen as `list`

pub place_below : {T : Type 0} (values : List T) (keys : List ℕ) (list : List T) (place : ℕ)
    → AreKeys keys (length values) → decoded values keys ≡ list → place < length list
    → place < length keys
place_below values keys list place all is h =
    let kept = length_decoded values keys all in
    let seen = ap length is in
    omega (arith, kept, seen, h)

pub key_below : {T : Type 0} (values : List T) (keys : List ℕ) (list : List T) (place : ℕ)
    → AreKeys keys (length values) → decoded values keys ≡ list → place < length list
    → get_or keys place 0 < length values
key_below values keys list place all is h =
    All-get_or (λ key. key < length values) keys place 0
    (place_below values keys list place all is h) all

pub value_at : {T : Type 0} (values : List T) (keys : List ℕ) (list : List T) (place : ℕ) (x : T)
    → AreKeys keys (length values) → decoded values keys ≡ list → place < length list
    → x ≡ get_or values (get_or keys place 0) x → slice_get list place ≡ Some x
value_at values keys list place x all is h read =
    ap (λ xs. slice_get xs place) (sym is) ∙ decoded_at values keys all place
    ∙ ap (option_and_then (slice_get values))
    (slice_get-get_or keys place 0 (place_below values keys list place all is h))
    ∙ slice_get_read values (length values) (get_or keys place 0) x refl
    (key_below values keys list place all is h) read

-- ---- a list that grows

-- what stands in a list stands there when it has grown
pub still_there : {T : Type 0} (values more : List T) (key : ℕ) → key < length values
    → slice_get (values ++ more) key ≡ slice_get values key
still_there [] more key h = absurd (omega (arith, h))
still_there (x ∷ values) more zero h = refl
still_there (x ∷ values) more (suc key) h = still_there values more key (omega (arith, h))

pub at_the_end : {T : Type 0} (values : List T) (x : T)
    → slice_get (values ++ x ∷ []) (length values) ≡ Some x
at_the_end [] x = refl
at_the_end (y ∷ values) x = at_the_end values x

-- further values change no place
pub with_values : {T : Type 0} (values more : List T) (keys : List ℕ)
    → AreKeys keys (length values) → decoded (values ++ more) keys ≡ decoded values keys
unfolding decoded
with_values values more [] all = refl
with_values values more (key ∷ keys) all =
    ap (λ o. cons_option o (decoded (values ++ more) keys))
    (still_there values more key (All-head (λ k. k < length values) key keys all))
    ∙ ap (cons_option (slice_get values key))
    (with_values values more keys (All-tail (λ k. k < length values) key keys all))

-- a further key is a further place
pub with_key : {T : Type 0} (values : List T) (keys : List ℕ) (key : ℕ) (x : T)
    → slice_get values key ≡ Some x
    → decoded values (keys ++ key ∷ []) ≡ decoded values keys ++ x ∷ []
unfolding decoded
with_key values keys key x is =
    filter_map-append (slice_get values) keys (key ∷ [])
    ∙ ap (λ o. decoded values keys ++ cons_option o []) is

pub keys_and : (keys : List ℕ) (key count more : ℕ) → AreKeys keys count → key < more
    → count ≤ more → AreKeys (keys ++ key ∷ []) more
keys_and keys key count more all h larger =
    let wide : AreKeys keys more = λ k d within. omega (arith, all k d within, larger) in
    All-append (λ k. k < more) keys (key ∷ []) wide
    (All-cons (λ k. k < more) key [] h (All-nil (λ k. k < more)))
