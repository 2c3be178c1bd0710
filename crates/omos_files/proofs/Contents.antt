-- Places of files in a list, and what stands there.
use Rattle.std.proofs.Common.{◌≡◌, ℕ, suc, ◌+◌, ◌<◌, ◌≤◌, List, [], ◌∷◌, ◌++◌, length, set, get_or}
use Rattle.std.proofs.Common.{Bool, true, false, subst, if◌then◌else◌, Some, None, refl, sym, ap}
use Rattle.std.proofs.Common.{◌∙◌, arith}
use Rattle.omos_files.specs.Files.{File, Content, content_of, with_content, is_same}
use Rattle.omos_files.specs.Files.{FileName, place_of_file}

get_or_next : (f : File) (files : List File) (k : ℕ) (d : File)
    → get_or (f ∷ files) (k + 1) d ≡ get_or files k d
get_or_next f files k d =
    let e : k + 1 ≡ suc k = omega arith in
    ap (λ n. get_or (f ∷ files) n d) e

set_next : (f : File) (files : List File) (k : ℕ) (g : File)
    → set (f ∷ files) (k + 1) g ≡ f ∷ set files k g
set_next f files k g =
    let e : k + 1 ≡ suc k = omega arith in
    ap (λ n. set (f ∷ files) n g) e

-- the first file has the name, or not
pub place_here : (name : FileName) (files : List File) (f : File) (rest : List File)
    → files ≡ f ∷ rest → is_same f.0 name ≡ true → 0 ≡ place_of_file name files
place_here name files f rest is same =
    sym (ap (place_of_file name) is ∙ ap (λ b. if b then 0 else place_of_file name rest + 1) same)

pub place_next : (name : FileName) (files : List File) (f : File) (rest : List File)
    → files ≡ f ∷ rest → is_same f.0 name ≡ false
    → place_of_file name rest + 1 ≡ place_of_file name files
place_next name files f rest is same =
    sym (ap (place_of_file name) is ∙ ap (λ b. if b then 0 else place_of_file name rest + 1) same)

-- where a file of the name stands, its content is what stands there
pub there : (name : FileName) (files : List File) (d : File)
    → place_of_file name files < length files
    → content_of name files ≡ Some (get_or files (place_of_file name files) d).1
there name [] d lt = absurd (omega (arith, lt))
there name (f ∷ files) d lt = go (is_same f.0 name) lt (λ h. there name files d h)
  where
    go : (b : Bool) → (if b then 0 else place_of_file name files + 1) < length (f ∷ files)
        → (place_of_file name files < length files
        → content_of name files ≡ Some (get_or files (place_of_file name files) d).1)
        → (if b then Some f.1 else content_of name files)
        ≡ Some (get_or (f ∷ files) (if b then 0 else place_of_file name files + 1) d).1
    go true less later = refl
    go false less later = later (omega (arith, less))
        ∙ ap (λ (g : File). Some g.1) (sym (get_or_next f files (place_of_file name files) d))

pub absent : (name : FileName) (files : List File) → length files ≤ place_of_file name files
    → content_of name files ≡ None
absent name [] le = refl
absent name (f ∷ files) le = go (is_same f.0 name) le (λ h. absent name files h)
  where
    go : (b : Bool) → length (f ∷ files) ≤ (if b then 0 else place_of_file name files + 1)
        → (length files ≤ place_of_file name files → content_of name files ≡ None)
        → (if b then Some f.1 else content_of name files) ≡ None
    go true less later = absurd (omega (arith, less))
    go false less later = later (omega (arith, less))

-- the bytes replace the content that stands there
pub replaced : (name : FileName) (bytes : Content) (files : List File) (d : File)
    → place_of_file name files < length files
    → set files (place_of_file name files) ((get_or files (place_of_file name files) d).0, bytes)
    ≡ with_content name bytes files
replaced name bytes [] d lt = absurd (omega (arith, lt))
replaced name bytes (f ∷ files) d lt =
    go (is_same f.0 name) lt (λ h. replaced name bytes files d h)
  where
    go : (b : Bool) → (if b then 0 else place_of_file name files + 1) < length (f ∷ files)
        → (place_of_file name files < length files
        → set files (place_of_file name files)
        ((get_or files (place_of_file name files) d).0, bytes)
        ≡ with_content name bytes files)
        → set (f ∷ files) (if b then 0 else place_of_file name files + 1)
        ((get_or (f ∷ files) (if b then 0 else place_of_file name files + 1) d).0, bytes)
        ≡ (if b then (f.0, bytes) ∷ files else f ∷ with_content name bytes files)
    go true less later = refl
    go false less later =
        let p = place_of_file name files in
        set_next f files p ((get_or (f ∷ files) (p + 1) d).0, bytes)
        ∙ ap (λ (g : File). f ∷ set files p (g.0, bytes)) (get_or_next f files p d)
        ∙ ap (λ (fs : List File). f ∷ fs) (later (omega (arith, less)))

pub added : (name : FileName) (bytes : Content) (files : List File)
    → length files ≤ place_of_file name files
    → files ++ (name, bytes) ∷ [] ≡ with_content name bytes files
added name bytes [] le = refl
added name bytes (f ∷ files) le =
    go (is_same f.0 name) le (λ h. added name bytes files h)
  where
    go : (b : Bool) → length (f ∷ files) ≤ (if b then 0 else place_of_file name files + 1)
        → (length files ≤ place_of_file name files
        → files ++ (name, bytes) ∷ [] ≡ with_content name bytes files)
        → (f ∷ files) ++ (name, bytes) ∷ []
        ≡ (if b then (f.0, bytes) ∷ files else f ∷ with_content name bytes files)
    go true less later = absurd (omega (arith, less))
    go false less later = ap (λ (fs : List File). f ∷ fs) (later (omega (arith, less)))

-- the same for a place and a file that were found
pub replaced_at : (name : FileName) (bytes : Content) (files : List File) (d : File) (k : ℕ)
    (g : File)
    → k ≡ place_of_file name files → k < length files → g ≡ get_or files k d
    → set files k (g.0, bytes) ≡ with_content name bytes files
replaced_at name bytes files d k g at less is =
    ap (λ (f : File). set files k (f.0, bytes)) is
    ∙ subst (λ n. set files n ((get_or files n d).0, bytes) ≡ with_content name bytes files)
    (sym at) (replaced name bytes files d (subst (λ n. n < length files) at less))
