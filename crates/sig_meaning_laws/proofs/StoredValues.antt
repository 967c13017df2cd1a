-- What a store keeps is what the instant has of the signal that its delay delays.
use Rattle.sig_meaning_laws.proofs.Common.{◌≡◌, ◌∙◌, ℕ, ℤ, pos, true, List, [], ◌∷◌, ap, subst, sym, Contains, All, Some, slice_get, unwrap_or, All-cons, All-contains, All-nil, Instant, Seen, seen_at, EqId, SigId, abstraction_of, signal_id, Memory, Form, Fun, Delay, When, WhenConst, Default, Sync, Event, Kernel, IsNext, Registers, truths_of, first_in, Operation, Presence, operations_of, signals_of, store_of, stores_of, without, writes_of, writing, Compute, DelayRead, Left, Read, Right, Store, read_present, each_operation, only, contains_at, contains_head}
use Rattle.sig_meaning_laws.proofs.Agreement.{Compiled, own_keeps, own_present, own_speaks}
use Rattle.sig_meaning_laws.proofs.Values.{form_for, has_form, where_some}

module _ (kernel : Kernel) (presence : Presence) where
  abbrev ReadsDelayed : Operation → Type 0
  ReadsDelayed p = (e : EqId) (y x : SigId) (initial : ℤ) → p.kind ≡ Store e → form_for kernel (Some e) ≡ Some (Delay y x initial) → p.reads ≡ x ∷ []

  abbrev HasForm : EqId → Form → Type 0
  HasForm number form = form_for kernel (Some number) ≡ Some form

  writes_delayed : (number : EqId) (form : Form) → HasForm number form → All ReadsDelayed (writes_of kernel.signals presence number form)
  writes_delayed number (Fun y op operands) has = only ReadsDelayed (writing kernel.signals number Compute (presence y) y (signals_of operands)) (λ e z x initial kind is. absurd (let f : Compute ≡ Store e = kind in cc))
  writes_delayed number (When y u b) has = only ReadsDelayed (writing kernel.signals number Compute (presence y) y (u ∷ [])) (λ e z x initial kind is. absurd (let f : Compute ≡ Store e = kind in cc))
  writes_delayed number (WhenConst y k b) has = only ReadsDelayed (writing kernel.signals number Compute (presence y) y []) (λ e z x initial kind is. absurd (let f : Compute ≡ Store e = kind in cc))
  writes_delayed number (Event y u) has = only ReadsDelayed (writing kernel.signals number Compute (presence y) y []) (λ e z x initial kind is. absurd (let f : Compute ≡ Store e = kind in cc))
  writes_delayed number (Delay y u i) has = only ReadsDelayed (writing kernel.signals number DelayRead (presence y) y []) (λ e z x initial kind is. absurd (let f : DelayRead ≡ Store e = kind in cc))
  writes_delayed number (Sync u y) has = All-nil ReadsDelayed
  writes_delayed number (Default y u v) has =
      All-cons ReadsDelayed (writing kernel.signals number Left (presence u) y (u ∷ [])) (writing kernel.signals number Right (without (presence v) (presence u)) y (v ∷ []) ∷ [])
      (λ e z x initial kind is. absurd (let f : Left ≡ Store e = kind in cc))
      (only ReadsDelayed (writing kernel.signals number Right (without (presence v) (presence u)) y (v ∷ [])) (λ e z x initial kind is. absurd (let f : Right ≡ Store e = kind in cc)))

  stores_delayed : (number : EqId) (form : Form) → HasForm number form → All ReadsDelayed (stores_of kernel.signals presence number form)
  stores_delayed number (Delay y u i) has = only ReadsDelayed (store_of kernel.signals presence number y u) (λ e z x initial kind is.
      let f : Store number ≡ Store e = kind in
      let one : number ≡ e = cc in
      let g : Some (Delay y u i) ≡ Some (Delay z x initial) = sym has ∙ ap (λ (n : EqId). form_for kernel (Some n)) one ∙ is in
      let same : u ≡ x = cc in
      ap (λ w. w ∷ []) same)
  stores_delayed number _ has = All-nil ReadsDelayed

  one_delayed : (p : Operation) → Contains (operations_of kernel presence) p → ReadsDelayed p
  one_delayed p among = All-contains ReadsDelayed (operations_of kernel presence) p
      (each_operation ReadsDelayed kernel presence HasForm (has_form kernel) (λ number lt e z x initial kind is. absurd (let f : Read (signal_id number) ≡ Store e = kind in cc)) writes_delayed stores_delayed) among

-- a store that is done hands on what the instant has
pub stored : (kernel : Kernel) (conditions : List SigId) (operations : List Operation) (order : List ℕ) → (c : Compiled kernel conditions operations order) → (memory : Memory) (next : ℕ → ℤ) (instant : Instant)
    → IsNext kernel memory next instant → (number : ℕ) (p : Operation) → slice_get operations number ≡ Some p → p.guard (truths_of conditions (seen_at instant)) ≡ true
    → (e : EqId) (y x : SigId) (initial : ℤ) → p.kind ≡ Store e → form_for kernel (Some e) ≡ Some (Delay y x initial) → (registers : Registers)
    → ((z : SigId) → Contains p.reads z → registers z.0 ≡ seen_at instant z.0) → seen_at instant x.0 ≡ Some (first_in registers p.reads)
stored kernel conditions operations order c memory next instant is number p at done e y x initial kind form registers same =
    let reads : p.reads ≡ x ∷ [] = one_delayed kernel c.has.presence p (subst (λ (ps : List Operation). Contains ps p) c.has.are (contains_at operations number p at)) e y x initial kind form in
    let inside : Contains p.reads x = subst (λ (xs : List SigId). Contains xs x) (sym reads) (contains_head x []) in
    let present = read_present kernel c.valid conditions operations c.has (truths_of conditions (seen_at instant)) (abstraction_of kernel.signals instant)
    (own_speaks kernel conditions operations order c memory next instant is) (own_keeps kernel conditions operations order c memory next instant is) number p x at inside done in
    let there = where_some (seen_at instant x.0) (sym (own_present kernel conditions operations order c memory next instant is x.0) ∙ present) in
    let held : unwrap_or (registers x.0) (pos 0) ≡ there.0 = ap (λ (s : Seen). unwrap_or s (pos 0)) (same x inside ∙ there.1) in
    there.1 ∙ ap Some (sym held) ∙ sym (ap (λ xs. Some (first_in registers xs)) reads)
