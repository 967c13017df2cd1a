-- The refusals of generated texts.
use Rattle.std.specs.Prelude.{◌≡◌, ◌≤◌, ◌<◌}
use Rattle.sig_load_command.specs.Prelude.{⊤, ℕ, false, List, codes, length, string_bytes, FLOW_BYTES, PROGRAM_BYTES, inputs_of, Kernel, Refusal, LongProgram, Program, Budget, TooManyItems, LongFile, Data, OutOfMemory, AreRefused, IsBudget, IsPlanLine, LacksNodes, IsFlowLine, RefusesFlows}

-- the name by which a refusal calls the generated flows
abbrev pub flows_name : List ℕ
flows_name = codes "flows"

-- a refusal may be one of a generated program or its flows
abbrev pub IsAboutLoad : Refusal → Type 0
IsAboutLoad LongProgram = ⊤
IsAboutLoad (Program line) = IsPlanLine (string_bytes line)
IsAboutLoad (Budget nodes) = IsBudget nodes
IsAboutLoad TooManyItems = ⊤
IsAboutLoad (LongFile name) = name.now ≡ flows_name
IsAboutLoad (Data line) = IsFlowLine flows_name (string_bytes line)
IsAboutLoad OutOfMemory = ⊤
IsAboutLoad other = ⊥

-- a refusal is that of bytes as a program
abbrev pub IsOfProgramText : List ℕ → Refusal → Type 0
IsOfProgramText bytes LongProgram = PROGRAM_BYTES < length bytes
IsOfProgramText bytes (Program line) = (length bytes ≤ PROGRAM_BYTES) × AreRefused false bytes (string_bytes line)
IsOfProgramText bytes (Budget nodes) = LacksNodes false bytes nodes
IsOfProgramText bytes OutOfMemory = ⊤
IsOfProgramText bytes other = ⊥

-- a refusal is that of bytes as flows of a kernel's inputs
abbrev pub IsOfFlowsText : Kernel → List ℕ → Refusal → Type 0
IsOfFlowsText kernel bytes (LongFile name) = (name.now ≡ flows_name) × (FLOW_BYTES < length bytes)
IsOfFlowsText kernel bytes (Data line) = (length bytes ≤ FLOW_BYTES) × RefusesFlows flows_name (inputs_of kernel) bytes (string_bytes line)
IsOfFlowsText kernel bytes OutOfMemory = ⊤
IsOfFlowsText kernel bytes other = ⊥
