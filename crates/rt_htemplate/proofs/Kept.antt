-- Those of the offered names that the template has.
use Rattle.std.proofs.Common.{ℕ, ◌+◌, ◌<◌, ◌≤◌, List, [], ◌∷◌, ◌++◌, length, get_or, sym, subst, ◌∙◌, arith, inl, inr}
use Rattle.std.specs.Prelude.{All, Contains}
use Rattle.std.proofs.lemmas.Bool.{cases_eq}
use Rattle.std.proofs.lemmas.List.{get_or_default}
use Rattle.std.proofs.lemmas.List.Elements.{All-push, All-contains, Contains-get_or, Contains-append_left, Contains-push}
use Rattle.rt_rows.specs.declared.name.Name.{Name}
use Rattle.rt_rows.specs.declared.name.Name.TheVariants.{Lo}
use Rattle.rt_rows.specs.Order.{ListsNames, ArePutInOrder}
use Rattle.rt_view.specs.declared.job.Job.{Job}
use Rattle.rt_template.specs.Horizontal.{HasAcross}
use Rattle.rt_htemplate.specs.Candidates.{HoldAllNames, AreThoseThere}

abbrev pub name_at : List Name → ℕ → Name
name_at names k = get_or names k (Lo 0)

-- those among the first n
pub record AreThoseSoFar (job : Job) (offered : List Name) (n : ℕ) (names : List Name) : Type 0 where
  pub each : All (HasAcross job) names
  pub every : (k : ℕ) → k < n → HasAcross job (name_at offered k) → Contains names (name_at offered k)

pub one_more : (job : Job) (offered : List Name) (n : ℕ) (names : List Name) → HasAcross job (name_at offered n) → AreThoseSoFar job offered n names
    → AreThoseSoFar job offered (n + 1) (names ++ name_at offered n ∷ [])
one_more job offered n names has before = record {
  each = All-push (HasAcross job) names (name_at offered n) before.each has;
  every = λ k h a. elim (cases_eq k n) [
    | inl e ↦ subst (λ m. Contains (names ++ name_at offered n ∷ []) (name_at offered m)) (sym e) (Contains-push names (name_at offered n))
    | inr o ↦ Contains-append_left names (name_at offered n ∷ []) (name_at offered k) (before.every k (omega (arith, h, o)) a)
  ];
}

pub none_more : (job : Job) (offered : List Name) (n : ℕ) (names : List Name) → (¬ HasAcross job (name_at offered n)) → AreThoseSoFar job offered n names
    → AreThoseSoFar job offered (n + 1) names
none_more job offered n names has before = record {
  each = before.each;
  every = λ k h a. elim (cases_eq k n) [
    | inl e ↦ absurd (has (subst (λ m. HasAcross job (name_at offered m)) e a))
    | inr o ↦ before.every k (omega (arith, h, o)) a
  ];
}

pub those_there : (job : Job) (offered : List Name) (n : ℕ) (names : List Name) → length offered ≤ n → AreThoseSoFar job offered n names → AreThoseThere job offered names
those_there job offered n names h are = record {
  each = are.each;
  every = λ name c a.
      let e = get_or_default offered c.0 (Lo 0) name c.1 ∙ c.2 in
      subst (λ m. Contains names m) e (are.every c.0 (omega (arith, c.1, h)) (subst (HasAcross job) (sym e) a));
}

-- put in order they are the names of the template
pub lists_names : (job : Job) (offered names sorted : List Name) → HoldAllNames job offered → AreThoseThere job offered names → ArePutInOrder names sorted
    → ListsNames (HasAcross job) sorted
lists_names job offered names sorted all there put = record {
  each = λ k d h. All-contains (HasAcross job) names (get_or sorted k d) there.each ((put.same (get_or sorted k d)).0 (Contains-get_or sorted k d h));
  every = λ name a. (put.same name).1 (there.every name (all.every name a) a);
  in_order = put.in_order;
}
