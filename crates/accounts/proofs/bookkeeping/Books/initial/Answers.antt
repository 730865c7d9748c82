use Rattle.std.proofs.Common.{◌-◌, Decides, sym, refl, ap, ◌∙◌, subst, arith}
use Rattle.std.specs.List.{AllByRecursion}
use Rattle.accounts.specs.Accounts.{Fits}
use Rattle.accounts.specs.Storages.{Renewable, renewed_by}
use Rattle.accounts.proofs.Settlements.{renews, may-renew, cannot-renew}
use Rattle.accounts.proofs.bookkeeping.Books.initial.Goals as goal

pub returns-then-not-all_fit : goal.returns-then-not-all_fit
returns-then-not-all_fit c =
    let s = c.args.self.now in
    let d = subst (λ rows. Decides c.all_fit.result (AllByRecursion (Fits (s.initial - c.base.result) c.args.v) rows)) c.as_slice.ensures.value c.all_fit.ensures in
    record { answers = cannot-renew s c.args.v c.base.result c.all_fit.result c.base.ensures.value c.if-not-all_fit.true d; leaves = refl; storage = refl }

pub renew_all-requires : goal.renew_all-requires
renew_all-requires c =
    let s = c.args.self.now in
    let all = subst (AllByRecursion (Fits (s.initial - c.base.result) c.args.v)) c.as_slice.ensures.value (c.all_fit.ensures.0 c.if-not-all_fit.false) in
    subst (Renewable s.storage (s.initial - c.base.result) c.args.v) (sym c.as_mut_slice.ensures.value) (may-renew s c.args.v c.base.result c.base.ensures.value all)

pub invariant_of-self : goal.invariant_of-self
invariant_of-self c =
    let s = c.args.self.now in
    let all = subst (AllByRecursion (Fits (s.initial - c.base.result) c.args.v)) c.as_slice.ensures.value (c.all_fit.ensures.0 c.if-not-all_fit.false) in
    let r = renews s c.args.v c.base.result c.renew_all.new.accounts c.base.ensures.value (omega arith) all (c.renew_all.ensures ∙ ap (renewed_by s.storage (s.initial - c.base.result) c.args.v) c.as_mut_slice.ensures.value) in
    record { within = (omega arith, s.within.1, s.within.2); roomy = s.roomy; sums = s.sums ∙ sym r.held; fair = ∣ r.fair ∣₁ }

pub returns : goal.returns
returns c =
    let s = c.args.self.now in
    let all = subst (AllByRecursion (Fits (s.initial - c.base.result) c.args.v)) c.as_slice.ensures.value (c.all_fit.ensures.0 c.if-not-all_fit.false) in
    let r = renews s c.args.v c.base.result c.renew_all.new.accounts c.base.ensures.value (omega arith) all (c.renew_all.ensures ∙ ap (renewed_by s.storage (s.initial - c.base.result) c.args.v) c.as_mut_slice.ensures.value) in
    record { answers = (λ _. (omega arith, r.accepts), λ _. refl); leaves = r.leaves; storage = refl }
