-- Reactions that were committed one behind another.
use Rattle.sig_work.proofs.Common.{◌≡◌, ◌++◌, ◌⊎◌, ◌∙◌, inl, inr, ℕ, ℤ, true, List, [], ◌∷◌, append_assoc, refl, ap, sym, subst, append-nil, Halt, HaltSeat, outputs_of, seen_lines, Kernel, Given, reactions_text, Reaction, PlanView, Joins, TookPrefix, TookPrefix-then, is_collector, run_of, GoesOn, IsOfRun, IsServed, IsServedInSome, IsShareOfSome, KeepsMember, KeepsShare, KeepsShares, ServesMember, ServesShare, ServesShares, AreOfRun, AreOfSomeRun, HasCollector, HaveCollector, Member, Share, flat_map-append}
use Rattle.sig_work.proofs.WhatStays.{have_collector_on, has_collector_on, is_collector_on}

-- a taking, and then one of another kind, are one of that kind
abbrev pub JoinsTo : {S : Type 0} → (S → List ℕ → S → Type 0) → (S → List ℕ → S → Type 0) → Type 0
JoinsTo {S} took last = (before middle after : S) (bytes more : List ℕ) → took before bytes middle → last middle more after → last before (bytes ++ more) after

pub joins_part : {S : Type 0} (took : S → List ℕ → S → Type 0) → Joins took → JoinsTo took (TookPrefix took)
joins_part {S} took joins before middle after bytes more all part = TookPrefix-then took joins before middle after bytes more all part

module _ {S : Type 0} (took : S → List ℕ → S → Type 0) (kernel : Kernel) (Serving : List Reaction → Type 0) (Collects : Type 0) (committed : List Reaction) where
  -- nothing was committed
  pub none_more : (sink : S) → took sink [] sink → Serving committed → GoesOn took kernel Serving Collects committed sink sink
  none_more sink nothing is = record { more = []; serving = subst Serving (sym (append-nil committed)) is; mine = inl refl; text = nothing }

  -- one reaction was, and its text taken
  pub one_more : (reaction : Reaction) (before after : S) → took before (seen_lines (outputs_of kernel) reaction) after → Serving (committed ++ reaction ∷ []) → Collects
      → GoesOn took kernel Serving Collects committed before after
  one_more reaction before after text is mine = record {
    more = reaction ∷ [];
    serving = is;
    mine = inr mine;
    text = subst (λ bytes. took before bytes after) (sym (append-nil (seen_lines (outputs_of kernel) reaction))) text;
  }

-- the second may have taken a part of its text alone
module _ {S : Type 0} (took last : S → List ℕ → S → Type 0) (joins : JoinsTo took last) where
  and_more : (kernel : Kernel) (First Second : List Reaction → Type 0) (Collects Later : Type 0) → (Collects → Later) → (committed : List Reaction) (before middle after : S)
      → GoesOn took kernel First Collects committed before middle → ((all : List Reaction) → First all → GoesOn last kernel Second Later all middle after)
      → GoesOn last kernel Second Later committed before after
  and_more kernel First Second Collects Later up committed before middle after one next = record {
    more = one.more ++ two.more;
    serving = subst Second (append_assoc committed one.more two.more) two.serving;
    mine = mine one.more two.more one.mine two.mine;
    text = subst (λ bytes. last before bytes after) (sym (flat_map-append (λ reaction. seen_lines (outputs_of kernel) reaction) one.more two.more))
        (joins before middle after (reactions_text kernel one.more) (reactions_text kernel two.more) one.text two.text);
  } where
    two : GoesOn last kernel Second Later (committed ++ one.more) middle after
    two = next (committed ++ one.more) one.serving

    mine : (xs ys : List Reaction) → (xs ≡ []) ⊎ Collects → (ys ≡ []) ⊎ Later → ((xs ++ ys) ≡ []) ⊎ Later
    mine xs ys (inr collects) more = inr (up collects)
    mine xs ys (inl none) (inr later) = inr later
    mine xs ys (inl none) (inl nothing) = inl (ap (λ (zs : List Reaction). zs ++ ys) none ∙ nothing)

  module _ (plan : PlanView) (flows : List (List ℤ)) (word : Halt) (x y z : S) where
    pub member_then : (a : Member) (s : HaltSeat) (b : Member) (t : HaltSeat) (c : Member) (u : HaltSeat) → KeepsMember b c
        → ServesMember took plan flows word a s b t x y → ServesMember last plan flows word b t c u y z → ServesMember last plan flows word a s c u x z
    member_then a s b t c u keeps one two capacity limit others committed is =
        let given : Given = run_of plan flows capacity limit in
        and_more plan.kernel (λ all. IsServed given word others all b t) (λ all. IsServed given word others all c u) (is_collector given b ≡ true) (is_collector given c ≡ true)
        (is_collector_on given b c keeps) committed x y z (one capacity limit others committed is) (λ all served. two capacity limit others all served)

    pub share_then : (a b c : Share) → KeepsShare b c → ServesShare took plan flows word a b x y → ServesShare last plan flows word b c y z → ServesShare last plan flows word a c x z
    share_then a b c keeps one two capacity limit committed is =
        let given : Given = run_of plan flows capacity limit in
        and_more plan.kernel (λ all. IsOfRun given word all b) (λ all. IsOfRun given word all c) (HasCollector given b) (HasCollector given c)
        (has_collector_on given b c keeps) committed x y z (one capacity limit committed is) (λ all served. two capacity limit all served)

    pub shares_then : (a b c : List Share) → KeepsShares b c → ServesShares took plan flows word a b x y → ServesShares last plan flows word b c y z → ServesShares last plan flows word a c x z
    shares_then a b c keeps one two capacity limit committed is =
        let given : Given = run_of plan flows capacity limit in
        and_more plan.kernel (λ all. AreOfRun given word all b) (λ all. AreOfRun given word all c) (HaveCollector given b) (HaveCollector given c)
        (have_collector_on given b c keeps) committed x y z (one capacity limit committed is) (λ all served. two capacity limit all served)

-- ---- nothing was done yet, and what is served then

module _ {S : Type 0} (took : S → List ℕ → S → Type 0) (plan : PlanView) (flows : List (List ℤ)) (word : Halt) where
  pub member_still : (m : Member) (by : HaltSeat) (sink : S) → took sink [] sink → ServesMember took plan flows word m by m by sink sink
  member_still m by sink nothing capacity limit others committed is =
      let given : Given = run_of plan flows capacity limit in
      none_more took plan.kernel (λ all. IsServed given word others all m by) (is_collector given m ≡ true) committed sink nothing is

  pub share_still : (share : Share) (sink : S) → took sink [] sink → ServesShare took plan flows word share share sink sink
  share_still share sink nothing capacity limit committed is =
      let given : Given = run_of plan flows capacity limit in
      none_more took plan.kernel (λ all. IsOfRun given word all share) (HasCollector given share) committed sink nothing is

  pub shares_still : (shares : List Share) (sink : S) → took sink [] sink → ServesShares took plan flows word shares shares sink sink
  shares_still shares sink nothing capacity limit committed is =
      let given : Given = run_of plan flows capacity limit in
      none_more took plan.kernel (λ all. AreOfRun given word all shares) (HaveCollector given shares) committed sink nothing is

  pub member_some : (m : Member) (by : HaltSeat) (n : Member) (now : HaltSeat) (before after : S) → ServesMember took plan flows word m by n now before after → IsServedInSome plan flows word m by → IsServedInSome plan flows word n now
  member_some m by n now before after serves some =
      let goes = serves some.0 some.1 some.2 some.3 some.4 in
      (some.0, some.1, some.2, some.3 ++ goes.more, goes.serving)

  pub share_some : (old new : Share) (before after : S) → ServesShare took plan flows word old new before after → IsShareOfSome plan flows word old → IsShareOfSome plan flows word new
  share_some old new before after serves some =
      let goes = serves some.0 some.1 some.2 some.3 in
      (some.0, some.1, some.2 ++ goes.more, goes.serving)

  pub shares_some : (old new : List Share) (before after : S) → ServesShares took plan flows word old new before after → AreOfSomeRun plan flows word old → AreOfSomeRun plan flows word new
  shares_some old new before after serves some =
      let goes = serves some.0 some.1 some.2 some.3 in
      (some.0, some.1, some.2 ++ goes.more, goes.serving)
