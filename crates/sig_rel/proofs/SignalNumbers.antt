-- A signal's class is given a number, and then its truth.
use Rattle.sig_rel.proofs.Common.{◌≡◌, ◌<◌, ℕ, false, List, length, get_or, None, Some, sym, ◌∙◌, arith, slice_get, false≢true, Kernel, AreLeast, AreGiven, HasNumbers, IsBoolean, Retains, given_at, next_after, is_boolean, Numbering}
use Rattle.sig_rel.proofs.ClassLemmas.{least_own, least_within}
use Rattle.sig_rel.proofs.GivenLemmas.{class_given, class_retained, class_there, retained_then, truth_given, truth_retained, truth_there}

-- what giving a class its number does
pub record GivesClass (old new : Numbering) (k : ℕ) : Type 0 where
  pub class : new.class.items ≡ given_at (get_or old.class.items k None) old.class.items k old.next
  pub truth : new.truth ≡ old.truth
  pub next : new.next ≡ next_after (get_or old.class.items k None) old.next

-- and a truth
pub record GivesTruth (old new : Numbering) (k : ℕ) : Type 0 where
  pub class : new.class ≡ old.class
  pub truth : new.truth.items ≡ given_at (get_or old.truth.items k None) old.truth.items k old.next
  pub next : new.next ≡ next_after (get_or old.truth.items k None) old.next

module _ (kernel : Kernel) (least : List ℕ) (first : ℕ) (old mid : Numbering) (signal : ℕ) (is : AreLeast kernel least) (lt : signal < length kernel.signals)
    (given : AreGiven kernel least first old) (gives : GivesClass old mid (get_or least signal 0)) where
  pub given_class : AreGiven kernel least first mid
  given_class = class_given kernel least first old mid given (get_or least signal 0) (least_own kernel least is signal lt) (least_within kernel least is signal lt) gives.class gives.truth gives.next

  pub kept_class : Retains old mid
  kept_class = class_retained old mid (get_or least signal 0) gives.class gives.truth

  has_class : (v : ℕ) × (slice_get mid.class.items (get_or least signal 0) ≡ Some (Some v))
  has_class = class_there old mid (get_or least signal 0) (let le = least_within kernel least is signal lt in let e = given.class_count in omega arith) gives.class

  pub has_alone : is_boolean kernel signal ≡ false → HasNumbers kernel least mid signal
  has_alone isnt = record { class = has_class; truth = λ boolean. absurd (false≢true (sym isnt ∙ boolean)) }

  module _ (new : Numbering) (boolean : IsBoolean kernel signal) (also : GivesTruth mid new signal) where
    pub given_both : AreGiven kernel least first new
    given_both = truth_given kernel least first mid new given_class signal boolean lt also.truth also.class also.next

    pub kept_both : Retains old new
    kept_both = retained_then old mid new kept_class (truth_retained mid new signal also.truth also.class)

    pub has_both : HasNumbers kernel least new signal
    has_both =
        let stays = truth_retained mid new signal also.truth also.class in
        record {
          class = (has_class.0, stays.classes (get_or least signal 0) has_class.0 has_class.1);
          truth = λ _. truth_there mid new signal (let e = given_class.truth_count in omega arith) also.truth;
        }
