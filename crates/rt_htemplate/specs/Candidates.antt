-- Names that are offered to the template across.
use Rattle.std.specs.Prelude.{ℕ, List, [], ◌∷◌, All, Contains, slice_index_or}
use Rattle.rt_rows.specs.declared.name.Name.{Name}
use Rattle.rt_rows.specs.declared.name.Name.TheVariants.{Lo, Hi, Wide, Size, Ll, Rr, Share, Gap, Off, Inl, Inr}
use Rattle.rt_view.specs.declared.job.Job.{Job}
use Rattle.rt_strips.specs.declared.contact.Seam.{Seam}
use Rattle.rt_strips.specs.Placed.{Placed}
use Rattle.rt_strips.specs.Seams.{IsSeam}
use Rattle.rt_between.specs.Offers.{pair_at}
use Rattle.rt_template.specs.Horizontal.{HasAcross, IsKeptRightOf}

-- the names for a strip
abbrev pub names_of_strip : ℕ → List Name
names_of_strip i = Lo i ∷ Hi i ∷ Wide i ∷ Size i ∷ []

-- the names for a strip that ends where another begins
abbrev pub names_of_seam : ℕ → ℕ → List Name
names_of_seam i j = Ll i j ∷ Ll j i ∷ Rr i j ∷ Rr j i ∷ Share i j ∷ Share j i ∷ []

-- the names for two strips that are near
abbrev pub names_of_pair : ℕ → ℕ → List Name
names_of_pair i j = Gap i j ∷ Gap j i ∷ []

-- those for the seam, or the pair, of a number
abbrev pub seam_at : List Seam → ℕ → Seam
seam_at seams k = slice_index_or seams k (record { below = 0; above = 0 })

abbrev pub names_at_seam : List Seam → ℕ → List Name
names_at_seam seams k = names_of_seam (seam_at seams k).below (seam_at seams k).above

abbrev pub names_at_pair : List (ℕ × ℕ) → ℕ → List Name
names_at_pair pairs k = names_of_pair (pair_at pairs k).0 (pair_at pairs k).1

-- the names by distance q for two strips that are near, and for the pair of a number
abbrev pub names_off : ℕ → ℕ × ℕ → List Name
names_off q pair = Off q pair.0 pair.1 ∷ Off q pair.1 pair.0 ∷ []

abbrev pub names_off_at : ℕ → List (ℕ × ℕ) → ℕ → List Name
names_off_at q pairs k = names_off q (pair_at pairs k)

-- the names by enclosure q for two strips that are near, and for the pair of a number
abbrev pub names_in : ℕ → ℕ × ℕ → List Name
names_in q pair = Inl q pair.0 pair.1 ∷ Inl q pair.1 pair.0 ∷ Inr q pair.0 pair.1 ∷ Inr q pair.1 pair.0 ∷ []

abbrev pub names_in_at : ℕ → List (ℕ × ℕ) → ℕ → List Name
names_in_at q pairs k = names_in q (pair_at pairs k)

-- the names for each seam of the strips are added
pub record AreOfferedAtSeams (strips : List Placed) (before after : List Name) : Type 0 where
  pub kept : (name : Name) → Contains before name → Contains after name
  pub offered : (i j : ℕ) → IsSeam strips i j → (name : Name) → Contains (names_of_seam i j) name → Contains after name

-- the names for each two strips that keep their distance are added
pub record AreOfferedForKept (job : Job) (before after : List Name) : Type 0 where
  pub kept : (name : Name) → Contains before name → Contains after name
  pub offered : (i j : ℕ) → IsKeptRightOf job i j → Contains after (Gap i j)

-- all names of the template are among these
pub record HoldAllNames (job : Job) (names : List Name) : Type 0 where
  pub every : (name : Name) → HasAcross job name → Contains names name

-- the names are those among the offered that the template has
pub record AreThoseThere (job : Job) (offered names : List Name) : Type 0 where
  pub each : All (HasAcross job) names
  pub every : (name : Name) → Contains offered name → HasAcross job name → Contains names name
