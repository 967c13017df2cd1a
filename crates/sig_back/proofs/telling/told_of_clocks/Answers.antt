use Rattle.sig_back.proofs.{refl, subst, [], ◌∷◌, refuses, MissingRoot as IsMissingRoot, Unsolved as IsUnsolved, Pinned as IsPinned, IsRefusalOf}
use Rattle.sig_plan.specs.Acceptance.{MissingRoot, Unsolved, Pinned}
use Rattle.sig_back.proofs.telling.told_of_clocks.Goals as goal

pub returns-in-MissingRoot : goal.returns-in-MissingRoot
returns-in-MissingRoot c =
    refuses c.args.kernel.now (MissingRoot c.in-MissingRoot.x c.in-MissingRoot.y) IsMissingRoot (c.in-MissingRoot.x ∷ c.in-MissingRoot.y ∷ []) _
    (subst (IsRefusalOf c.args.kernel.now) c.in-MissingRoot.is c.requires.refused) refl c.told-in-MissingRoot.ensures

pub returns-in-Unsolved : goal.returns-in-Unsolved
returns-in-Unsolved c =
    refuses c.args.kernel.now (Unsolved c.in-Unsolved.x) IsUnsolved (c.in-Unsolved.x ∷ []) _ (subst (IsRefusalOf c.args.kernel.now) c.in-Unsolved.is c.requires.refused) refl c.told-in-Unsolved.ensures

pub returns-in-Pinned : goal.returns-in-Pinned
returns-in-Pinned c = refuses c.args.kernel.now (Pinned c.in-Pinned.b) IsPinned (c.in-Pinned.b ∷ []) _ (subst (IsRefusalOf c.args.kernel.now) c.in-Pinned.is c.requires.refused) refl c.told-in-Pinned.ensures
