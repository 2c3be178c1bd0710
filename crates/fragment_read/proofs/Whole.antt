-- The fragment of a file by its first fault, or by its parts where it has none.
use Rattle.std.proofs.Common.{◌≡◌, ℕ, true, List, Option, Some, None, Ok, Err, ap, subst}
use Rattle.std.specs.Prelude.{IfOk}
use Rattle.omos_base.specs.Fault.{MatchFault}
use Rattle.omos_base.specs.declared.fault.Fault.{Fault}
use Rattle.omos_base.specs.declared.fault.Fault.TheVariants.{Refused, NoMemory}
use Rattle.omos_model.specs.ElfFaults.{object_fault}
use Rattle.omos_model.specs.FragmentOf.{fragment_of, parts_of_file, unless_fault}
use Rattle.omos_model.specs.FragmentParts.{IsFragment, is_fragment}
use Rattle.omos_model.specs.Laws.{FragmentLaw}
use Rattle.omos_model.specs.declared.refusal.ObjectFault.{ObjectFault}

pub fragment_is : (file : List ℕ) → object_fault file ≡ None
    → fragment_of file ≡ Ok (parts_of_file file)
unfolding fragment_of
fragment_is file h = ap (λ (o : Option ObjectFault). unless_fault o (parts_of_file file)) h

pub fault_is : (file : List ℕ) (x : ObjectFault) → object_fault file ≡ Some x
    → fragment_of file ≡ Err x
unfolding fragment_of
fault_is file x h = ap (λ (o : Option ObjectFault). unless_fault o (parts_of_file file)) h

pub lawful : (file : List ℕ) → FragmentLaw → object_fault file ≡ None
    → is_fragment (parts_of_file file) ≡ true
lawful file law h = subst (λ r. IfOk r IsFragment) (fragment_is file h) (law file)

-- the refusal of the tables is that of the file
pub refused_alike : (file : List ℕ) (P : List ℕ → Type 0) (fault : Fault ObjectFault)
    → MatchFault (Err fault) P (λ x. object_fault file ≡ Some x)
    → MatchFault (Err fault) (λ f. fragment_of file ≡ Ok f) (λ x. fragment_of file ≡ Err x)
refused_alike file P (Refused x) h = fault_is file x h
refused_alike file P NoMemory h = tt
