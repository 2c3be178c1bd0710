-- What a box of files tells.
use Rattle.std.specs.Prelude.{◌≡◌, ℕ, ◌+◌, ◌<◌, ◌≤◌, ◌==◌, false, List, [], ◌∷◌, length, Bool}
use Rattle.std.specs.Prelude.{if◌then◌else◌, ⊤, Option, None, Some}
use Rattle.std.specs.Cmp.Lexicographic.{pointwise}
use Rattle.omos_files.specs.declared.files.FileRead.{FileRead}
use Rattle.omos_files.specs.declared.files.FileRead.TheVariants as read
use Rattle.omos_files.specs.declared.files.FileWrote.{FileWrote}
use Rattle.omos_files.specs.declared.files.FileWrote.TheVariants as wrote

abbrev pub FileName : Type 0
FileName = List ℕ

abbrev pub Content : Type 0
Content = List ℕ

-- a file, by its name and what it holds
abbrev pub File : Type 0
File = FileName × Content

-- the two names have the same bytes
abbrev pub is_same : FileName → FileName → Bool
is_same a b = pointwise (λ x y. x == y) a b

-- what the first file of the name holds
abbrev pub content_of : FileName → List File → Option Content
content_of name [] = None
content_of name (f ∷ files) = if is_same f.0 name then Some f.1 else content_of name files

-- the bytes become what the file of the name holds, and no other file changes
abbrev pub with_content : FileName → Content → List File → List File
with_content name bytes [] = (name, bytes) ∷ []
with_content name bytes (f ∷ files) =
    if is_same f.0 name then (f.0, bytes) ∷ files else f ∷ with_content name bytes files

-- how many files stand before the first of the name
abbrev pub place_of_file : FileName → List File → ℕ
place_of_file name [] = 0
place_of_file name (f ∷ files) = if is_same f.0 name then 0 else place_of_file name files + 1

-- what a read gave has at most so many bytes
abbrev pub FitsLimit : FileRead → ℕ → Type 0
FitsLimit (read.Whole bytes) limit = length bytes ≤ limit
FitsLimit read.TooLong limit = Unit {0}
FitsLimit read.Failed limit = Unit {0}
FitsLimit read.NoMemory limit = Unit {0}

-- a read gives the content whole, or says that it is longer than the limit
abbrev pub CopyOf : Content → ℕ → FileRead → Type 0
CopyOf content limit (read.Whole bytes) = (bytes ≡ content) × (length content ≤ limit)
CopyOf content limit read.TooLong = limit < length content
CopyOf content limit read.Failed = ⊥
CopyOf content limit read.NoMemory = Unit {0}

-- where the files are told, a read that doesn't fail is of the file of the name
abbrev pub Reads : Option (List File) → FileName → ℕ → FileRead → Type 0
Reads None name limit answer = ⊤
Reads (Some files) name limit (read.Whole bytes) = content_of name files ≡ Some bytes
Reads (Some files) name limit read.TooLong =
    (bytes : Content) × (content_of name files ≡ Some bytes) × (limit < length bytes)
Reads (Some files) name limit read.Failed = ⊤
Reads (Some files) name limit read.NoMemory = ⊤

-- of the two lists of files, only the file of the name may differ
abbrev pub OthersStay : FileName → List File → List File → Type 0
OthersStay name before now =
    (other : FileName) → is_same other name ≡ false → content_of other now ≡ content_of other before

-- where the files are told, a write that is done changes the file of the name, and none another
abbrev pub WritesFile : Option (List File) → Option (List File) → FileName → Content → FileWrote
    → Type 0
WritesFile None now name bytes answer = ⊤
WritesFile (Some before) None name bytes answer = ⊥
WritesFile (Some before) (Some now) name bytes wrote.Done = now ≡ with_content name bytes before
WritesFile (Some before) (Some now) name bytes wrote.Failed = OthersStay name before now
WritesFile (Some before) (Some now) name bytes wrote.NoMemory = OthersStay name before now
