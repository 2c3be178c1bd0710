-- The line that says what the replies of a workload come to.
use Rattle.std.specs.Prelude.{◌≡◌, ℕ, List, [], ◌∷◌, ◌++◌, codes, count_by, decimal, sum_by, Some}
use Rattle.std.specs.List.{AllByRecursion}
use Rattle.omos_wire.specs.Answer.{Answer}
use Rattle.workload_calls.specs.declared.replies.Figures.{Figures}
use Rattle.workload_calls.specs.Replies.{HadMemory, first_figures, image_length, is_image_reply}

-- `objects N images I bytes B hits H evicted E placements L version V`
abbrev pub numbers_line : ℕ → ℕ → ℕ → Figures → List ℕ
numbers_line n images bytes f =
    codes "objects " ++ decimal n ++ codes " images " ++ decimal images
    ++ codes " bytes " ++ decimal bytes ++ codes " hits " ++ decimal f.hits
    ++ codes " evicted " ++ decimal f.evicted ++ codes " placements " ++ decimal f.placements
    ++ codes " version " ++ decimal f.version ++ 10 ∷ []

-- how many images were sent, how many bytes their files had, and what the counts said
abbrev pub workload_line : ℕ → List Answer → Figures → List ℕ
workload_line n answers f =
    numbers_line n (count_by is_image_reply answers) (sum_by image_length answers) f

-- none of the replies is want of memory, and the line is of them
pub record TellsFigures (n : ℕ) (answers : List Answer) (line : List ℕ) : Type 0 where
  pub had_memory : AllByRecursion HadMemory answers
  pub figures : Figures
  pub counted : first_figures answers ≡ Some figures
  pub line_is : line ≡ workload_line n answers figures
