-- What a proof above this crate cites: what stays as a store grows, and on what made functions depend.
use Rattle.sig_dd.proofs.Common.{◌≡◌, ℕ, Bool, true, false, List, [], ◌++◌, ◌⊎◌, inl, inr, refl, sym, ◌∙◌, ap, subst, append_assoc, arith, Contains, append-nil, with_truth, Depends, Agree, StoreView, IsStore, Holds, Keeps, IsRefOf, Spans, test, Ref, Node, same_truth}
use Rattle.sig_dd.proofs.Canonical.{one_ref}
use Rattle.sig_dd.proofs.Functions.{test-kept, Spans-append}
use Rattle.sig_dd.proofs.Growth.{Holds-append}

-- in a store equal functions have one reference
pub one_reference : (s : StoreView) → IsStore s → (f g : Ref) → Holds s.nodes f → Holds s.nodes g → Agree (test s.nodes f) (test s.nodes g) → f ≡ g
one_reference s store f g hf hg same = one_ref s.nodes store.reduced f g hf hg same

pub Keeps-itself : (s : StoreView) → Keeps s s
Keeps-itself s = record { added = []; nodes = sym (append-nil s.nodes); grows = omega arith; made_for = refl }

pub Keeps-trans : (r s t : StoreView) → Keeps r s → Keeps s t → Keeps r t
Keeps-trans r s t p q =
    let a = p.grows in
    let b = q.grows in
    record {
      added = p.added ++ q.added;
      grows = omega arith;
      nodes = q.nodes ∙ ap (λ ns. ns ++ q.added) p.nodes ∙ append_assoc r.nodes p.added q.added;
      made_for = q.made_for ∙ p.made_for;
    }

module _ (old new : StoreView) (kept : Keeps old new) (r : Ref) (held : Holds old.nodes r) where
  pub Holds-kept : Holds new.nodes r
  Holds-kept = subst (λ ns. Holds ns r) (sym kept.nodes) (Holds-append old.nodes kept.added r held)

  pub Agree-kept : Agree (test new.nodes r) (test old.nodes r)
  Agree-kept = test-kept old new kept r held

  pub Spans-kept : (vs : List ℕ) → Spans old.nodes r vs → Spans new.nodes r vs
  Spans-kept vs spans = Spans-append old new kept r held vs spans

pub IsRefOf-kept : (old new : StoreView) → Keeps old new → (f : List Bool → Bool) (r : Ref) → IsRefOf old.nodes f r → IsRefOf new.nodes f r
IsRefOf-kept old new kept f r is = record {
  holds = Holds-kept old new kept r is.holds;
  function = λ ts. test-kept old new kept r is.holds ts ∙ is.function ts;
}

-- a reference depends on what its function depends on
pub Spans-of : (nodes : List Node) (f : List Bool → Bool) (r : Ref) → IsRefOf nodes f r → (vs : List ℕ) → ((v : ℕ) → Depends f v → Contains vs v) → Spans nodes r vs
Spans-of nodes f r is vs only v (ts, ne) = only v (ts, λ e. ne (is.function _ ∙ e ∙ sym (is.function _)))

-- a function of two functions depends on what one of them depends on
pub Depends-of_two : (op : Bool → Bool → Bool) (f g : List Bool → Bool) (v : ℕ) → Depends (λ ts. op (f ts) (g ts)) v → Depends f v ⊎ Depends g v
Depends-of_two op f g v (ts, ne) =
    elim (same_truth (f (with_truth ts v false)) (f (with_truth ts v true))) [
      | inr apart ↦ inl (ts, apart)
      | inl e ↦ inr (ts, λ e'. ne (λ j. op (e j) (e' j)))
    ]

pub Depends-of_one : (op : Bool → Bool) (f : List Bool → Bool) (v : ℕ) → Depends (λ ts. op (f ts)) v → Depends f v
Depends-of_one op f v (ts, ne) = (ts, λ e. ne (ap op e))
