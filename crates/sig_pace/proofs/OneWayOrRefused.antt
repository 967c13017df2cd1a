-- A kernel is paced in one way, or refused for one reason.
use Rattle.sig_pace.proofs.Common.{◌≡◌, ◌∙◌, inl, inr, ℕ, List, length, sym, ap, subst, arith, false≢true, IsLeast, Kernel, AreMaximalClocks, IsPaced, IsTaken, NeedsNoPaces, NeedsPaces, paced_kernel, HasTooManySignals, IsNameTaken}
use Rattle.sig_pace.proofs.RisingLists.{one_rising}

module _ (kernel : Kernel) where
  pub same_clocks : (a b : List ℕ) → AreMaximalClocks kernel a → AreMaximalClocks kernel b → a ≡ b
  same_clocks a b of_a of_b = one_rising a b of_a.order of_b.order (λ m there. (of_b.all m).1 ((of_a.all m).0 there)) (λ m there. (of_a.all m).1 ((of_b.all m).0 there))

  pub needs_or_not : (least : List ℕ) → NeedsNoPaces kernel → NeedsPaces kernel least → ⊥
  needs_or_not least (inl root) needs = needs.none root.0 root.1
  needs_or_not least (inr dead) needs = false≢true (sym needs.alive.1.some ∙ dead needs.alive.0 needs.alive.1.is)

  pub one_pacing : (a b : Kernel) → IsPaced kernel a → IsPaced kernel b → a ≡ b
  one_pacing a b (inl none) (inl other) = none.1 ∙ sym other.1
  one_pacing a b (inl none) (inr gets) = absurd (needs_or_not gets.0 none.0 gets.1.needs)
  one_pacing a b (inr gets) (inl none) = absurd (needs_or_not gets.0 none.0 gets.1.needs)
  one_pacing a b (inr gets) (inr other) = gets.1.is ∙ ap (paced_kernel kernel) (same_clocks gets.0 other.0 gets.1.needs.clocks other.1.needs.clocks) ∙ sym other.1.is

  pub taken_or_paced : (signal : ℕ) (paced : Kernel) → IsNameTaken kernel signal → IsPaced kernel paced → ⊥
  taken_or_paced signal paced taken (inl none) = needs_or_not taken.least none.0 taken.needs
  taken_or_paced signal paced taken (inr gets) =
      gets.1.free signal (subst (λ least. IsTaken kernel least signal) (same_clocks taken.least gets.0 taken.needs.clocks gets.1.needs.clocks) taken.first.holds)

  pub many_or_paced : (paced : Kernel) → HasTooManySignals kernel → IsPaced kernel paced → ⊥
  many_or_paced paced many (inl none) = needs_or_not many.least none.0 many.needs
  many_or_paced paced many (inr gets) =
      let same = same_clocks many.least gets.0 many.needs.clocks gets.1.needs.clocks in
      omega (arith, gets.1.few, many.many, ap length same)

  pub one_taken : (x y : ℕ) → IsNameTaken kernel x → IsNameTaken kernel y → x ≡ y
  one_taken x y a b =
      let same = same_clocks a.least b.least a.needs.clocks b.needs.clocks in
      let first : IsLeast (IsTaken kernel b.least) x = subst (λ least. IsLeast (IsTaken kernel least) x) same a.first in
      omega (arith, first.least y b.first.holds, b.first.least x first.holds)

  pub taken_or_many : (x : ℕ) → IsNameTaken kernel x → HasTooManySignals kernel → ⊥
  taken_or_many x taken many = many.free x (subst (λ least. IsTaken kernel least x) (same_clocks taken.least many.least taken.needs.clocks many.needs.clocks) taken.first.holds)
