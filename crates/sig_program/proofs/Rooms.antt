-- Why the bytes of a program are refused, and that the nodes do not suffice for it.
use Rattle.sig_program.proofs.Common.{◌≡◌, ◌≤◌, ◌<◌, ◌+◌, ◌∙◌, ℕ, Bool, true, false, List, [], length, Some, inl, inr, sym, ap, subst, arith, slice_get, NODES, SIGNALS, Signal, MeetsUnknownBound, IsFull, Keeps, StoreView, front_line, FrontAnswer, TooManySignals, Kernel, HasNoPaceRoom, HasTooManySignals, IsNameTaken, IsPaceRefusal, PaceAnswer, NoNodes, TooManyPaced, IsUnknownCount, share_of, Contents, IsOfProgram, Refusal, of_more, AreRefused, HasOwnKernel, IsRefusedPace, IsRefusedText, IsUnpaced, SaysNameTaken, SaysTooManySignals, taken_line, HoldsBeyondBound, IsBudget, IsPlanLine, LacksNodes}

pub refused_own : (pace : Bool) (bytes : List ℕ) (r : Refusal) → IsOfProgram (IsRefusedText bytes) (λ nodes. ⊥) r → IsOfProgram (AreRefused pace bytes) (LacksNodes pace bytes) r
refused_own pace bytes r is = of_more (IsRefusedText bytes) (AreRefused pace bytes) (λ nodes. ⊥) (LacksNodes pace bytes) (λ line text. inl text) (λ nodes lacks. absurd lacks) r is

-- so is one by the line that says why a kernel gets no paces
abbrev large_line : ℕ → List ℕ
large_line limit = let large : FrontAnswer = TooManySignals limit in front_line large

pub refused_paces : (bytes : List ℕ) (own : Kernel) (r : Refusal) → HasOwnKernel bytes own → IsOfProgram (IsUnpaced own) (λ nodes. ⊥) r → IsOfProgram (AreRefused true bytes) (LacksNodes true bytes) r
refused_paces bytes own r has is =
    of_more (IsUnpaced own) (AreRefused true bytes) (λ nodes. ⊥) (LacksNodes true bytes)
    (λ line why. let refused : IsRefusedPace true bytes line = record { own = own; has = has; why = why } in inr (inl refused)) (λ nodes lacks. absurd lacks) r is

pub refused_taken : (bytes : List ℕ) (own : Kernel) (signal : ℕ) (r : Refusal) → HasOwnKernel bytes own → IsNameTaken own signal
    → ((named : Signal) → slice_get own.signals signal ≡ Some named → IsOfProgram (λ line. line ≡ taken_line named) (λ nodes. ⊥) r) → IsOfProgram (AreRefused true bytes) (LacksNodes true bytes) r
refused_taken bytes own signal r has taken said =
    let named = taken.first.holds.found in
    refused_paces bytes own r has
    (of_more (λ line. line ≡ taken_line named) (IsUnpaced own) (λ nodes. ⊥) (λ nodes. ⊥)
    (λ line says. let is : SaysNameTaken own line = record { signal = signal; taken = taken; named = named; is = taken.first.holds.is; says = says } in inl is)
    (λ nodes lacks. lacks) r (said named taken.first.holds.is))

pub refused_many : (bytes : List ℕ) (own : Kernel) (answer : PaceAnswer) (limit : ℕ) (r : Refusal) → HasOwnKernel bytes own → answer ≡ TooManyPaced limit → IsPaceRefusal own answer
    → (let large : FrontAnswer = TooManySignals limit in IsOfProgram (λ line. line ≡ front_line large) (λ nodes. ⊥) r) → IsOfProgram (AreRefused true bytes) (LacksNodes true bytes) r
refused_many bytes own answer limit r has is refusal said =
    let why : (limit ≡ SIGNALS) × HasTooManySignals own = subst (IsPaceRefusal own) is refusal in
    refused_paces bytes own r has
    (of_more (λ line. line ≡ large_line limit) (IsUnpaced own) (λ nodes. ⊥) (λ nodes. ⊥)
    (λ line says. let is : SaysTooManySignals own line = record { many = why.1; says = says ∙ ap large_line why.0 } in inr is)
    (λ nodes lacks. lacks) r said)

-- a store that was empty finds no room for the paces of a kernel only where the kernel is not within the bound
pub no_pace_room : (own : Kernel) (old new : StoreView) (answer : PaceAnswer) (n : ℕ) → answer ≡ NoNodes n → old.nodes ≡ [] → old.made_for ≡ NODES → Keeps old new
    → ((unknowns : ℕ) → IsUnknownCount own unknowns → HasNoPaceRoom old new (share_of own unknowns) answer) → MeetsUnknownBound own → ⊥
no_pace_room own old new answer n is empty made kept room meets =
    let none : length old.nodes ≡ 0 = ap length empty in
    let lacks : IsFull new n × (n < length old.nodes + share_of own meets.unknowns) = subst (HasNoPaceRoom old new (share_of own meets.unknowns)) is (room meets.unknowns meets.counted) in
    let all : n ≡ NODES = sym lacks.0.0 ∙ kept.made_for ∙ made in
    let fits = meets.fits in
    omega (arith, lacks.1, none, fits, all)

-- ---- which lines these are

unpaced_line : (own : Kernel) (line : List ℕ) → IsUnpaced own line → IsPlanLine line
unpaced_line own line (inl taken) = inr (inl (taken.named, taken.says))
unpaced_line own line (inr many) = inl (TooManySignals SIGNALS, many.says)

pace_line : (pace : Bool) (bytes line : List ℕ) → IsRefusedPace pace bytes line → IsPlanLine line
pace_line true bytes line refused = unpaced_line refused.own line refused.why
pace_line false bytes line refused = absurd refused

pub plan_line : (pace : Bool) (bytes line : List ℕ) → AreRefused pace bytes line → IsPlanLine line
plan_line pace bytes line (inl text) = inl (text.answer, text.says)
plan_line pace bytes line (inr (inl refused)) = pace_line pace bytes line refused
plan_line pace bytes line (inr (inr kernel)) = inr (inr (kernel.fault, kernel.says))

pub budget_number : (pace : Bool) (bytes : List ℕ) (nodes : ℕ) → LacksNodes pace bytes nodes → IsBudget nodes
budget_number pace bytes nodes lacks = lacks.number

pub holds_beyond : (pace : Bool) (program bytes : List ℕ) → length bytes ≤ 1048576 → (held : Contents) (nodes : ℕ) → held program ≡ Some bytes → LacksNodes pace bytes nodes → HoldsBeyondBound pace (held program)
holds_beyond pace program bytes short held nodes there lacks = record { bytes = bytes; there = there; short = short; good = lacks.beyond }
