-- Lemmas on the steps of solving.
use Rattle.sig_solve.proofs.Common.{◌≡◌, ◌≤◌, ◌+◌, ℕ, List, [], ◌∷◌, length, sym, ap, subst, Some, Result, Ok, Err, IfOk, IsErrAnd, slice_get, SigId, AreSolved, HasRoot, IsFirstPinned, IsUnsolved, conditions_of, StoreView, IsUnknownCount, Share, DdAnswer, Budget as StoreBudget, OutOfMemory as NoMemory, FindsPinned, IsFrame, IsFromStore, IsWithin, calls_of, rest_of_share, store_refusal, AreSettled, layer_in, ClockAnswer, Frame}
use Rattle.sig_solve.proofs.CountLemmas.{calls_fit, classes_and_conditions, some_class, within_of_share}
use Rattle.sig_solve.proofs.OrderLemmas.{signal_layer, unsolved_first}
use Rattle.sig_solve.proofs.ReactionLemmas.{condition_is_signal}

first_split : (xs : List ℕ) (x : ℕ) → slice_get xs 0 ≡ Some x → (rest : List ℕ) × (xs ≡ x ∷ rest)
first_split [] x is = cc
first_split (y ∷ xs) x is = let e : Some y ≡ Some x = is in let same : y ≡ x = cc in (xs, ap (λ z. z ∷ xs) same)

pub unsolved_at : (frame : Frame) (is : IsFrame frame) (layers waiting : List ℕ) (x : ℕ) → AreSettled frame layers waiting → slice_get waiting 0 ≡ Some x → HasRoot frame.kernel.now → IsUnsolved frame.kernel.now x
unsolved_at frame is layers waiting x settled at root = let split = first_split waiting x at in unsolved_first frame is layers waiting x split.0 settled split.1 root

pub solved : (frame : Frame) (is : IsFrame frame) (layers : List ℕ) → AreSettled frame layers [] → AreSolved frame.kernel.now
solved frame is layers settled s lt = (layer_in frame layers s, (signal_layer frame is layers settled s lt).0)

pub pinned_at : (frame : Frame) (is : IsFrame frame) (layers : List ℕ) (conditions : List SigId) (b : SigId) → AreSettled frame layers [] → HasRoot frame.kernel.now → FindsPinned frame.kernel.now conditions (Some b) → IsFirstPinned frame.kernel.now b.0
pinned_at frame is layers conditions b settled root found = record {
  root = root;
  solved = solved frame is layers settled;
  layer = layer_in frame layers b.0;
  has = (signal_layer frame is layers settled b.0 (condition_is_signal frame.kernel.now b.0 found.0.is)).0;
  pinned = found.0;
  first = found.1;
}

refusal_from : {T : Type 0} (result : Result T ClockAnswer) (e : DdAnswer) → IsErrAnd result (λ d. IsFromStore e d) → store_refusal result ≡ Some e
refusal_from (Ok x) e h = absurd h
refusal_from (Err d) (StoreBudget n) h = ap (λ a. store_refusal {T = Unit {0}} (Err a)) h
refusal_from (Err d) NoMemory h = ap (λ a. store_refusal {T = Unit {0}} (Err a)) h

-- what the store refused is refused
pub refused_from : {T : Type 0} (n : ℕ) (vs : List ℕ) (s t : StoreView) (result : Result T ClockAnswer) (e : DdAnswer) → IsErrAnd result (λ d. IsFromStore e d) → Share n vs s t (Some e) → Share n vs s t (store_refusal result)
refused_from n vs s t result e is share = subst (Share n vs s t) (sym (refusal_from result e is)) share

pub with_clocks : {T : Type 0} (H : Type 0) (P : T → Type 0) (result : Result T ClockAnswer) → H → IfOk result P → IfOk result (λ x. H × P x)
with_clocks H P (Ok x) h is = (h, is)
with_clocks H P (Err e) h is = tt

-- the calls keep to what is left of the share
pub rest_within : {T : Type 0} (frame : Frame) (is : IsFrame frame) (u n : ℕ) (vs : List ℕ) (old new : StoreView) (result : Result T ClockAnswer) → IsUnknownCount frame.kernel.now u → length vs ≡ n → n ≤ u
    → Share (1 + calls_of (length frame.leaders.items) (length (conditions_of frame.kernel.now)) n) vs old new (store_refusal result) → IsWithin (rest_of_share frame.kernel.now u) old new result
rest_within frame is u n vs old new result counted count few share =
    let c = length frame.leaders.items in
    let k = length (conditions_of frame.kernel.now) in
    within_of_share (1 + calls_of c k n) vs (rest_of_share frame.kernel.now u) old new result
    (calls_fit n u c k (length frame.kernel.now.equations) vs count few (classes_and_conditions frame is u counted) (some_class frame is u counted)) share
