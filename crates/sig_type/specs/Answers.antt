-- What the answers of the check say.
use Rattle.std.specs.Prelude.{◌++◌}
use Rattle.sig_type.specs.Prelude.{ℕ, List, codes, Option, None, Some, flat_map, encode_utf8, refusal_at, refusal, Offence, Unknown as UnknownName, DeclaredTwice as TwiceDeclared, InputDefined as GivenDefined, DefinedTwice as TwiceDefined, Undefined as NotDefined, Clash as KindsClash, BareConstant as ConstantAlone, BadCall as CallDiffers, Recursive as CallsItself, BadPragma as PragmaIsBad, NoInit as InitIsMissing}
use Rattle.sig_type.specs.declared.answer.TypeAnswer.{TypeAnswer}
use Rattle.sig_type.specs.declared.answer.TypeAnswer.TheVariants.{Unknown, DeclaredTwice, InputDefined, DefinedTwice, Undefined, Clash, BareConstant, BadCall, Recursive, BadPragma, NoInit, OutOfMemory}

-- the offence that an answer names; want of memory names none
abbrev pub offence_of : TypeAnswer → Option Offence
offence_of (Unknown name) = Some (UnknownName name)
offence_of (DeclaredTwice name) = Some (TwiceDeclared name)
offence_of (InputDefined name) = Some (GivenDefined name)
offence_of (DefinedTwice name) = Some (TwiceDefined name)
offence_of (Undefined name) = Some (NotDefined name)
offence_of (Clash at) = Some (KindsClash at)
offence_of (BareConstant at) = Some (ConstantAlone at)
offence_of (BadCall name) = Some (CallDiffers name)
offence_of (Recursive name) = Some (CallsItself name)
offence_of (BadPragma at) = Some (PragmaIsBad at)
offence_of (NoInit at) = Some (InitIsMissing at)
offence_of OutOfMemory = None

-- the text of a name as it is shown: a byte as the character of its number. ASCII is shown as it is.
abbrev pub shown : List ℕ → List ℕ
shown text = flat_map encode_utf8 text

-- the line that an answer shows, without its newline
abbrev pub answer_line : TypeAnswer → List ℕ
answer_line (Unknown name) = refusal_at name.at (codes "unknown name " ++ shown name.text)
answer_line (DeclaredTwice name) = refusal_at name.at (shown name.text ++ codes " is declared twice")
answer_line (InputDefined name) = refusal_at name.at (codes "input " ++ (shown name.text ++ codes " is defined"))
answer_line (DefinedTwice name) = refusal_at name.at (shown name.text ++ codes " is defined twice")
answer_line (Undefined name) = refusal_at name.at (shown name.text ++ codes " is not defined")
answer_line (Clash at) = refusal_at at (codes "types clash")
answer_line (BareConstant at) = refusal_at at (codes "bare constant")
answer_line (BadCall name) = refusal_at name.at (codes "bad call of " ++ shown name.text)
answer_line (Recursive name) = refusal_at name.at (codes "recursive call of " ++ shown name.text)
answer_line (BadPragma at) = refusal_at at (codes "bad pragma")
answer_line (NoInit at) = refusal_at at (codes "delay without init")
answer_line OutOfMemory = refusal (codes "out of memory")
