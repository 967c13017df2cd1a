-- What an operator's operands are, and what the operator makes of them, determines its intermediates.
use Rattle.sig_flat.proofs.Common.{◌≡◌, ℕ, suc, ℤ, pos, false, Option, None, Some, refl, sym, ap, subst, ◌∙◌, arith, inl, Kind, Boolean, Event, SigId, Span, Seen, Instant, Bounded, IsValue, IsOfKind, AreOfKinds, seen_at, Meets, where_present, Form, Operand, BinOp, Plus, Meet, Less, binary_row, kind_of_result, stored, Found, Combines, clock_of, sampled, delayed, held as held_value, kinds_of, Allows, found_at, Site, Made, Translated, with_signal, with_own, with_clocks, own, next as next_signal, by_one, binary_form, signal_in, signal_id, less, binary, cell, clocked}
use Rattle.sig_kernel.specs.declared.equation.Form.TheVariants.{When, Default}
use Rattle.sig_tree.specs.Operators.{Signal, merged}
use Rattle.sig_flat.proofs.MetOperators.{less_row, cell_row}
use Rattle.sig_flat.proofs.Agreement.{Agree, Fitting}
use Rattle.sig_flat.proofs.Instants.{at_first}
use Rattle.sig_flat.proofs.Kinded.{clock_kind, or_kind, event_truth, sampled_kind, delayed_kind}
use Rattle.sig_flat.proofs.TranslationCases.{is_fixed, found_signal, Met, equation_meets, forms_met, forms_meet, own_met}
use Rattle.sig_flat.proofs.MetExpressions.{binary_meets, clock_forms, IsClocked, plus_clocked, meet_clocked, less_forms, cell_forms, with_truths, cell_kept, cell_whole, cell_signals}
use Rattle.sig_flat.proofs.AddedSignals.{Adds, next_is, adds_signal, LeftIs, left_later, same_seen, adds_own, adds_begins, Clocks, clocks_added, clocks_begin}

-- an instant over the signals that were there goes on to one instant over those of a translation
pub record Determined (t : Translated) (made : Made) (now : Instant) (o : Found) : Type 0 where
  pub whole : Instant
  pub kinds : AreOfKinds Bounded (kinds_of t.made.signals) whole
  pub begins : (other : Instant) → Agree (next_signal t.made) whole other → Agree (next_signal made) now other
  pub found : (other : Instant) → Agree (next_signal t.made) whole other → found_at other t.operand ≡ o
  pub met : (other : Instant) → Fitting other → Agree (next_signal t.made) whole other → Met other made → Met other t.made
  pub only : (other : Instant) → Fitting other → Agree (next_signal made) now other → Met other t.made → found_at other t.operand ≡ o
      → Agree (next_signal t.made) whole other

pub then_determined : (x t : Translated) (made : Made) (now : Instant) (o p : Found) (d : Determined x made now o) → Determined t x.made d.whole p
    → ((other : Instant) → Fitting other → Agree (next_signal made) now other → Met other t.made → Met other x.made × (found_at other x.operand ≡ o))
    → Determined t made now p
then_determined x t made now o p d g back = record {
  whole = g.whole;
  kinds = g.kinds;
  begins = λ other agree. d.begins other (g.begins other agree);
  found = g.found;
  met = λ other fits agree m. g.met other fits agree (d.met other fits (g.begins other agree) m);
  only = λ other fits agree m f. let b = back other fits agree m in g.only other fits (d.only other fits agree b.0 b.1) m f;
}

pub one_determined : (left : Option ℕ) (site : Site) (kind : Kind) (at : Span) (form : SigId → Form) (made : Made) (now : Instant) (v : Seen)
    → AreOfKinds Bounded (kinds_of made.signals) now → IsOfKind Bounded kind v → LeftIs left (next_signal made) now (Signal v)
    → ((other : Instant) → Fitting other → Agree (next_signal made) now other → seen_at other (own left made) ≡ v → Meets Bounded at_first other (form (signal_id (own left made))))
    → Determined (by_one left site kind at form made) made now (Signal v)
one_determined left site kind at form made now v h k left_is meets =
    let a : Adds made (with_own left site kind at made) now (own left made) v = adds_own left site kind at made now v h k left_is in
    record {
      whole = a.whole;
      kinds = a.kinds;
      begins = λ other agree. (a.to other agree).0;
      found = λ other agree. ap Signal (a.to other agree).1;
      met = λ other fits agree m. equation_meets other at (form (signal_id (own left made))) (with_own left site kind at made)
          ((own_met left site kind at made other).1 m) (meets other fits (a.to other agree).0 (a.to other agree).1);
      only = λ other fits agree m f. a.from other agree (same_seen (seen_at other (own left made)) v f);
    }

-- an operand is this signal's value, wherever the signals that were there are what they are
abbrev pub IsSeen : ℕ → Instant → Operand → Seen → Type 0
IsSeen count now u s = (other : Instant) → Agree count now other → seen_at other (signal_in u).0 ≡ s

same_combined : (op : BinOp) (s t w : Seen) (x y v : Seen) → x ≡ s → y ≡ t → v ≡ w → Combines op (Signal s) (Signal t) w → Combines op (Signal x) (Signal y) v
same_combined op s t w x y v a b e h = rw (a, b, e) h

clocked_determined : (op : BinOp) (last : SigId → SigId → SigId → Form) → IsClocked op last → (left : Option ℕ) (site : Site) (at : Span) (u v : Operand) (made : Made) (now : Instant) (s t w : Seen)
    → AreOfKinds Bounded (kinds_of made.signals) now → IsOfKind Bounded Event w → LeftIs left (next_signal made) now (Signal w)
    → IsSeen (next_signal made) now u s → IsSeen (next_signal made) now v t → Combines op (Signal s) (Signal t) w
    → Determined (clocked left site at last u v made) made now (Signal w)
clocked_determined op last clocked_is left site at u v made now s t w h k left_is u_is v_is is =
    let clocks : Made = with_clocks site at made in
    let e : ℕ = next_signal made in
    let y : ℕ = own left clocks in
    let c : Clocks made clocks now s t = clocks_added site at made now s t h in
    let one : suc (next_signal made) ≡ next_signal (with_signal site Event at made) = next_is site Event at made in
    let two : suc (next_signal (with_signal site Event at made)) ≡ next_signal clocks = next_is site Event at (with_signal site Event at made) in
    let a : Adds clocks (with_own left site Event at clocks) c.whole y w =
    adds_own left site Event at clocks c.whole w c.kinds k (left_later left (next_signal made) (next_signal clocks) now c.whole (Signal w) (omega arith) (clocks_begin made clocks now s t c) left_is) in
    record {
      whole = a.whole;
      kinds = a.kinds;
      begins = λ other agree. (c.to other (a.to other agree).0).0;
      found = λ other agree. ap Signal (a.to other agree).1;
      met = λ other fits agree m.
          let own_there = a.to other agree in
          let first = c.to other own_there.0 in
          let uu : seen_at other (signal_in u).0 ≡ s = u_is other first.0 in
          let vv : seen_at other (signal_in v).0 ≡ t = v_is other first.0 in
          forms_meet other at (clock_forms last e y u v) (with_own left site Event at clocks) ((own_met left site Event at clocks other).1 m)
          ((clocked_is.row at_first other (signal_in u) (signal_in v) (signal_id e) (signal_id (suc e)) (signal_id y)).1
          (first.1 ∙ ap clock_of (sym uu), first.2 ∙ ap clock_of (sym vv), same_combined op s t w (seen_at other (signal_in u).0) (seen_at other (signal_in v).0) (seen_at other y) uu vv own_there.1 is));
      only = λ other fits agree m f.
          let r = forms_met other at (clock_forms last e y u v) (with_own left site Event at clocks) m in
          let row = (clocked_is.row at_first other (signal_in u) (signal_in v) (signal_id e) (signal_id (suc e)) (signal_id y)).0 r.1 in
          a.from other (c.from other agree (row.0 ∙ ap clock_of (u_is other agree)) (row.1 ∙ ap clock_of (v_is other agree))) (same_seen (seen_at other y) w f);
    }

absence_kind : (t : Seen) → IsOfKind Bounded Boolean (where_present t (pos 0))
absence_kind None = tt
absence_kind (Some v) = inl refl

less_determined : (left : Option ℕ) (site : Site) (at : Span) (u v : Operand) (made : Made) (now : Instant) (s t w : Seen)
    → AreOfKinds Bounded (kinds_of made.signals) now → IsOfKind Bounded Event w → LeftIs left (next_signal made) now (Signal w)
    → IsSeen (next_signal made) now u s → IsSeen (next_signal made) now v t → Combines Less (Signal s) (Signal t) w
    → Determined (less left site at u v made) made now (Signal w)
less_determined left site at u v made now s t w h k left_is u_is v_is is =
    let clocks : Made = with_clocks site at made in
    let more : Made = with_signal site Boolean at clocks in
    let truths : Made = with_truths site at made in
    let e : ℕ = next_signal made in
    let z : ℕ = next_signal clocks in
    let y : ℕ = own left truths in
    let not_v : Seen = where_present t (pos 0) in
    let either : Seen = merged not_v (clock_of s) in
    let c : Clocks made clocks now s t = clocks_added site at made now s t h in
    let one : suc (next_signal made) ≡ next_signal (with_signal site Event at made) = next_is site Event at made in
    let two : suc (next_signal (with_signal site Event at made)) ≡ next_signal clocks = next_is site Event at (with_signal site Event at made) in
    let three : suc (next_signal clocks) ≡ next_signal more = next_is site Boolean at clocks in
    let four : suc (next_signal more) ≡ next_signal truths = next_is site Boolean at more in
    let first_more : Adds clocks more c.whole z not_v = adds_signal site Boolean at clocks c.whole z not_v c.kinds (absence_kind t) refl in
    let second_more : Adds more truths first_more.whole (suc z) either =
    adds_signal site Boolean at more first_more.whole (suc z) either first_more.kinds (or_kind Boolean not_v (clock_of s) (absence_kind t) (event_truth (clock_of s) (clock_kind s))) three in
    let there : Agree (next_signal made) now second_more.whole =
    (c.to second_more.whole (first_more.to second_more.whole (adds_begins more truths first_more.whole (suc z) either second_more)).0).0 in
    let a : Adds truths (with_own left site Event at truths) second_more.whole y w =
    adds_own left site Event at truths second_more.whole w second_more.kinds k (left_later left (next_signal made) (next_signal truths) now second_more.whole (Signal w) (omega arith) there left_is) in
    record {
      whole = a.whole;
      kinds = a.kinds;
      begins = λ other agree. (c.to other (first_more.to other (second_more.to other (a.to other agree).0).0).0).0;
      found = λ other agree. ap Signal (a.to other agree).1;
      met = λ other fits agree m.
          let last = a.to other agree in
          let third = second_more.to other last.0 in
          let second = first_more.to other third.0 in
          let first = c.to other second.0 in
          let uu : seen_at other (signal_in u).0 ≡ s = u_is other first.0 in
          let vv : seen_at other (signal_in v).0 ≡ t = v_is other first.0 in
          forms_meet other at (less_forms e z y u v) (with_own left site Event at truths) ((own_met left site Event at truths other).1 m)
          ((less_row at_first other (signal_in u) (signal_in v) (signal_id e) (signal_id (suc e)) (signal_id z) (signal_id (suc z)) (signal_id y)).1 (
            first.1 ∙ ap clock_of (sym uu),
            first.2 ∙ ap clock_of (sym vv),
            second.1 ∙ ap (λ q. where_present q (pos 0)) (sym vv),
            third.1 ∙ ap (λ q. merged q (clock_of s)) (sym second.1) ∙ ap (merged (seen_at other z)) (sym first.1),
            same_combined Less s t w (seen_at other (signal_in u).0) (seen_at other (signal_in v).0) (seen_at other y) uu vv last.1 is,
          ));
      only = λ other fits agree m f.
          let r = forms_met other at (less_forms e z y u v) (with_own left site Event at truths) m in
          let row = (less_row at_first other (signal_in u) (signal_in v) (signal_id e) (signal_id (suc e)) (signal_id z) (signal_id (suc z)) (signal_id y)).0 r.1 in
          let e_is : seen_at other e ≡ clock_of s = row.0 ∙ ap clock_of (u_is other agree) in
          let z_is : seen_at other z ≡ not_v = row.2 ∙ ap (λ q. where_present q (pos 0)) (v_is other agree) in
          a.from other (second_more.from other (first_more.from other (c.from other agree e_is (row.1 ∙ ap clock_of (v_is other agree))) z_is)
          (row.3 ∙ ap (λ q. merged q (seen_at other e)) z_is ∙ ap (merged not_v) e_is)) (same_seen (seen_at other y) w f);
    }

-- an operand that is a signal
signal_found : (u : Operand) (x : Found) (now : Instant) (count : ℕ) → is_fixed u ≡ false → ((other : Instant) → Agree count now other → found_at other u ≡ x)
    → IsSeen count now u (seen_at now (signal_in u).0) × (x ≡ Signal (seen_at now (signal_in u).0))
signal_found u x now count h is =
    let here : x ≡ Signal (seen_at now (signal_in u).0) = sym (is now (λ n below. refl)) ∙ found_signal now u h in
    (λ other agree. same_seen (seen_at other (signal_in u).0) (seen_at now (signal_in u).0) (sym (found_signal other u h) ∙ is other agree ∙ here), here)

two_found : (op : BinOp) (x y : Found) (s t w : Seen) → x ≡ Signal s → y ≡ Signal t → Combines op x y w → Combines op (Signal s) (Signal t) w
two_found op x y s t w a b h = subst (λ q. Combines op (Signal s) q w) b (subst (λ p. Combines op p y w) a h)

pub binary_determined : (left : Option ℕ) (site : Site) (op : BinOp) (at : Span) (u v : Translated) (now : Instant) (x y : Found) (w : Seen)
    → AreOfKinds Bounded (kinds_of v.made.signals) now → IsOfKind Bounded (kind_of_result (binary_row op).result u.kind (Some v.kind)) w
    → LeftIs left (next_signal v.made) now (Signal w) → Allows (binary_row op).constants (is_fixed u.operand) (is_fixed v.operand)
    → ((other : Instant) → Agree (next_signal v.made) now other → found_at other u.operand ≡ x)
    → ((other : Instant) → Agree (next_signal v.made) now other → found_at other v.operand ≡ y)
    → Combines op x y w → Determined (binary left site op at u v) v.made now (Signal w)
binary_determined left site Plus at u v now x y w h k left_is allowed u_is v_is is =
    let a = signal_found u.operand x now (next_signal v.made) allowed.0 u_is in
    let b = signal_found v.operand y now (next_signal v.made) allowed.1 v_is in
    let s : Seen = seen_at now (signal_in u.operand).0 in
    let t : Seen = seen_at now (signal_in v.operand).0 in
    clocked_determined Plus Default plus_clocked left site at u.operand v.operand v.made now s t w h k left_is a.0 b.0 (two_found Plus x y s t w a.1 b.1 is)
binary_determined left site Meet at u v now x y w h k left_is allowed u_is v_is is =
    let a = signal_found u.operand x now (next_signal v.made) allowed.0 u_is in
    let b = signal_found v.operand y now (next_signal v.made) allowed.1 v_is in
    let s : Seen = seen_at now (signal_in u.operand).0 in
    let t : Seen = seen_at now (signal_in v.operand).0 in
    clocked_determined Meet When meet_clocked left site at u.operand v.operand v.made now s t w h k left_is a.0 b.0 (two_found Meet x y s t w a.1 b.1 is)
binary_determined left site Less at u v now x y w h k left_is allowed u_is v_is is =
    let a = signal_found u.operand x now (next_signal v.made) allowed.0 u_is in
    let b = signal_found v.operand y now (next_signal v.made) allowed.1 v_is in
    let s : Seen = seen_at now (signal_in u.operand).0 in
    let t : Seen = seen_at now (signal_in v.operand).0 in
    less_determined left site at u.operand v.operand v.made now s t w h k left_is a.0 b.0 (two_found Less x y s t w a.1 b.1 is)
binary_determined left site op at u v now x y w h k left_is allowed u_is v_is is =
    one_determined left site (kind_of_result (binary_row op).result u.kind (Some v.kind)) at (binary_form op u.operand v.operand) v.made now w h k left_is
    (λ other fits agree e. (binary_meets op u.operand v.operand (signal_id (own left v.made)) other refl fits allowed).1 (rw (u_is other agree, v_is other agree, e) is))

pub cell_determined : (left : Option ℕ) (site : Site) (init : ℤ) (at : Span) (x b : Translated) (now : Instant) (s t : Seen)
    → AreOfKinds Bounded (kinds_of b.made.signals) now → IsValue Bounded (stored x.kind) init → IsOfKind Bounded (stored x.kind) (held_value init s t)
    → LeftIs left (next_signal b.made) now (Signal (held_value init s t))
    → IsSeen (next_signal b.made) now x.operand s → IsSeen (next_signal b.made) now b.operand t
    → Determined (cell left site init at x b) b.made now (Signal (held_value init s t))
cell_determined left site init at x b now s t h init_is k left_is x_is b_is =
    let kind : Kind = stored x.kind in
    let v : Seen = held_value init s t in
    let kept_made : Made = cell_kept site at x b in
    let whole_made : Made = cell_whole left site at x b in
    let one : Made = with_signal site Event at whole_made in
    let two : Made = with_signal site Event at one in
    let signals : Made = cell_signals left site at x b in
    let z : ℕ = next_signal b.made in
    let y : ℕ = own left kept_made in
    let e : ℕ = next_signal whole_made in
    let event : Seen = clock_of s in
    let true_at : Seen = sampled (Some (pos 1)) t in
    let either : Seen = merged event true_at in
    let z_next : suc (next_signal b.made) ≡ next_signal kept_made = next_is site kind at b.made in
    let e_next : suc e ≡ next_signal one = next_is site Event at whole_made in
    let w_next : suc (next_signal one) ≡ next_signal two = next_is site Event at one in
    let true_kind : IsOfKind Bounded Event true_at = sampled_kind Event (Some (pos 1)) t refl in
    let a : Adds b.made kept_made now z (delayed init v) = adds_signal site kind at b.made now z (delayed init v) h (delayed_kind kind init v init_is) refl in
    let c : Adds kept_made whole_made a.whole y v =
    adds_own left site kind at kept_made a.whole v a.kinds k
    (left_later left (next_signal b.made) (next_signal kept_made) now a.whole (Signal v) (omega arith) (adds_begins b.made kept_made now z (delayed init v) a) left_is) in
    let d : Adds whole_made one c.whole e event = adds_signal site Event at whole_made c.whole e event c.kinds (clock_kind s) refl in
    let f : Adds one two d.whole (suc e) true_at = adds_signal site Event at one d.whole (suc e) true_at d.kinds true_kind e_next in
    let g : Adds two signals f.whole (suc (suc e)) either =
    adds_signal site Event at two f.whole (suc (suc e)) either f.kinds (or_kind Event event true_at (clock_kind s) true_kind) (ap suc e_next ∙ w_next) in
    record {
      whole = g.whole;
      kinds = g.kinds;
      begins = λ other agree. (a.to other (c.to other (d.to other (f.to other (g.to other agree).0).0).0).0).0;
      found = λ other agree. ap Signal (c.to other (d.to other (f.to other (g.to other agree).0).0).0).1;
      met = λ other fits agree m.
          let fifth = g.to other agree in
          let fourth = f.to other fifth.0 in
          let third = d.to other fourth.0 in
          let second = c.to other third.0 in
          let first = a.to other second.0 in
          let xx : seen_at other (signal_in x.operand).0 ≡ s = x_is other first.0 in
          let bb : seen_at other (signal_in b.operand).0 ≡ t = b_is other first.0 in
          forms_meet other at (cell_forms z y e init x.operand b.operand) signals ((own_met left site kind at kept_made other).1 m)
          ((cell_row at_first other (signal_in x.operand) (signal_in b.operand) (signal_id z) (signal_id e) (signal_id (suc e)) (signal_id (suc (suc e))) (signal_id y) init).1 (
            first.1 ∙ ap (delayed init) (sym second.1),
            third.1 ∙ ap clock_of (sym xx),
            fourth.1 ∙ ap (sampled (Some (pos 1))) (sym bb),
            fifth.1 ∙ ap (λ q. merged q true_at) (sym third.1) ∙ ap (merged (seen_at other e)) (sym fourth.1),
            second.1 ∙ ap (λ q. held_value init q t) (sym xx) ∙ ap (held_value init (seen_at other (signal_in x.operand).0)) (sym bb),
          ));
      only = λ other fits agree m found_is.
          let r = forms_met other at (cell_forms z y e init x.operand b.operand) signals m in
          let row = (cell_row at_first other (signal_in x.operand) (signal_in b.operand) (signal_id z) (signal_id e) (signal_id (suc e)) (signal_id (suc (suc e))) (signal_id y) init).0 r.1 in
          let y_is : seen_at other y ≡ v = same_seen (seen_at other y) v found_is in
          let e_is : seen_at other e ≡ event = row.1 ∙ ap clock_of (x_is other agree) in
          let w_is : seen_at other (suc e) ≡ true_at = row.2 ∙ ap (sampled (Some (pos 1))) (b_is other agree) in
          g.from other (f.from other (d.from other (c.from other (a.from other agree (row.0 ∙ ap (delayed init) y_is)) y_is) e_is) w_is)
          (row.3 ∙ ap (λ q. merged q (seen_at other (suc e))) e_is ∙ ap (merged event) w_is);
    }
