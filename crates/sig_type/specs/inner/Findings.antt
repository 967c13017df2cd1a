-- What was found, of what was asked for.
use Rattle.std.specs.Prelude.{◌≡◌}
use Rattle.sig_type.specs.Prelude.{Option, None, Some, List, Candidate, NoneHolds, IsFirst, Offence, Unknown as UnknownName, DeclaredTwice as TwiceDeclared, InputDefined as GivenDefined, DefinedTwice as TwiceDefined, Undefined as NotDefined, Clash as KindsClash, BareConstant as ConstantAlone, BadCall as CallDiffers, Recursive as CallsItself, BadPragma as PragmaIsBad, NoInit as InitIsMissing}
use Rattle.sig_type.specs.declared.finding.Finding.{Finding}
use Rattle.sig_type.specs.declared.finding.Finding.TheVariants.{Unknown, DeclaredTwice, InputDefined, DefinedTwice, Undefined, Clash, BareConstant, BadCall, Recursive, BadPragma, NoInit}
use Rattle.sig_type.specs.declared.finding.First.{First}

-- the offence that a finding is
abbrev pub offence_in : Finding → Offence
offence_in (Unknown name) = UnknownName name.now
offence_in (DeclaredTwice name) = TwiceDeclared name.now
offence_in (InputDefined name) = GivenDefined name.now
offence_in (DefinedTwice name) = TwiceDefined name.now
offence_in (Undefined name) = NotDefined name.now
offence_in (Clash at) = KindsClash at
offence_in (BareConstant at) = ConstantAlone at
offence_in (BadCall name) = CallDiffers name.now
offence_in (Recursive name) = CallsItself name.now
offence_in (BadPragma at) = PragmaIsBad at
offence_in (NoInit at) = InitIsMissing at

-- what is found of candidates: nothing, where none holds, or the first that does
abbrev pub IsFoundOf : List Candidate → Option Finding → Type 0
IsFoundOf cs None = NoneHolds cs
IsFoundOf cs (Some finding) = IsFirst cs (offence_in finding)

-- the same where something may have been found before, which then stays
abbrev pub IsKept : (before after : Option Finding) → List Candidate → Type 0
IsKept None after cs = IsFoundOf cs after
IsKept (Some finding) after cs = after ≡ Some finding

-- candidates were asked for, in their order
pub record Finds (before after : First) (cs : List Candidate) : Type 0 where
  pub kept : IsKept before.found after.found cs

-- what is found first of two searches in a row
abbrev pub sooner : (before later : Option Finding) → Option Finding
sooner None later = later
sooner (Some finding) later = Some finding
