-- What the records of an element hold.
use Rattle.std.proofs.Common.{◌≡◌, ℕ, ℤ, Bool, true, false, eqb, List, [], ◌∷◌, ◌++◌, take, drop, replicate, Option, Some, None, unwrap_or, Ok, refl, sym, ap, ◌∙◌, subst, if◌then◌else◌, eq-eqb}
use Rattle.std.proofs.lemmas.Bool.{or_parts, ne_eqb, eqb-false}
use Rattle.std.specs.Int.{w16, from_be_bytes}
use Rattle.gds_records.specs.declared.types.TheConstants.{BOUNDARY, PATH, SREF, AREF, TEXT, LAYER, DATATYPE, WIDTH, XY, SNAME, COLROW, NODE, TEXTTYPE, STRING, STRANS, MAG, ANGLE, PATHTYPE, ELFLAGS, NODETYPE, BOX, BOXTYPE, PLEX, BGNEXTN, ENDEXTN}
use Rattle.rt_base.specs.declared.plane.Point.{Point}
use Rattle.gds_records.specs.Records.{Item}
use Rattle.gds_grammar.specs.Grammar.{maybe}
use Rattle.gds_grammar.specs.Format.{head, turn}
use Rattle.gds_grammar.specs.Conditions.{is_in, starts, trim}
use Rattle.gds_grammar.specs.Reading.{Cursor, read}
use Rattle.gds_stream.specs.declared.library.Place.{Place}
use Rattle.gds_stream.specs.declared.library.Element.{Element}
use Rattle.gds_stream.specs.declared.library.Element.TheVariants.{Boundary, Path, Sref, Aref, Label, BoxShape}
use Rattle.gds_stream.specs.Contents.{held, two_bytes, four_bytes, points_in, first_of, real_one, place_in, element_of}
use Rattle.gds_stream.specs.Gives.{IsOne, IsOneOrNone, IsShape}
use Rattle.gds_stream.specs.Rests.{beside_kind, HoldsArea, HoldsPoints, GivesLine, GivesArray, GivesText}
use Rattle.gds_stream.proofs.Lacking.{held-append, not_held, or_nothing}

-- records that hold these data of the one type, and nothing of others
pub record Only (code : ℕ) (data_there : Option (List ℕ)) (items : List Item) : Type 0 where
  pub held_is : (c : ℕ) → held c items ≡ (if eqb code c then data_there else None)

pub one_only : (at code : ℕ) (body : List ℕ) (items : List Item) → IsOne at code body items → Only code (Some body) items
one_only at code body items is = let OnlyIt : List Item → Type 0 = Only code (Some body) in subst OnlyIt (sym is.1) (record { held_is = λ c. refl })

none_either : (b : Bool) → (let n : Option (List ℕ) = None in n) ≡ (if b then None else None)
none_either true = refl
none_either false = refl

none_only : (code : ℕ) → Only code None []
none_only code = record { held_is = λ c. none_either (eqb code c) }

pub maybe_only : (at code : ℕ) (found : Option (List ℕ)) (items : List Item) → IsOneOrNone at code found items → Only code found items
maybe_only at code None items is = let OnlyIt : List Item → Type 0 = Only code None in subst OnlyIt (sym is) (none_only code)
maybe_only at code (Some body) items is = one_only at code body items is

-- records that hold nothing of the types that are looked up in elements
pub record Nothing (items : List Item) : Type 0 where
  pub layer : held LAYER items ≡ None
  pub datatype : held DATATYPE items ≡ None
  pub texttype : held TEXTTYPE items ≡ None
  pub boxtype : held BOXTYPE items ≡ None
  pub pathtype : held PATHTYPE items ≡ None
  pub width : held WIDTH items ≡ None
  pub xy : held XY items ≡ None
  pub sname : held SNAME items ≡ None
  pub colrow : held COLROW items ≡ None
  pub string : held STRING items ≡ None
  pub strans : held STRANS items ≡ None
  pub mag : held MAG items ≡ None
  pub angle : held ANGLE items ≡ None

-- none stands at the head of an element
pub head_nothing : (c d : Cursor) (items : List Item) → read head c ≡ Ok (items, d) → Nothing items
unfolding head
head_nothing c d items is =
    let never = not_held head in
    record {
      layer = never LAYER c d items is refl;
      datatype = never DATATYPE c d items is refl;
      texttype = never TEXTTYPE c d items is refl;
      boxtype = never BOXTYPE c d items is refl;
      pathtype = never PATHTYPE c d items is refl;
      width = never WIDTH c d items is refl;
      xy = never XY c d items is refl;
      sname = never SNAME c d items is refl;
      colrow = never COLROW c d items is refl;
      string = never STRING c d items is refl;
      strans = never STRANS c d items is refl;
      mag = never MAG c d items is refl;
      angle = never ANGLE c d items is refl;
    }

-- the first record tells the element
begun : (at code : ℕ) (body : List ℕ) (s more : List Item) (o : Option Element) → is_in starts code ≡ true → IsOne at code body s
    → ((form : ℕ) → element_of (record { at = at; code = code; form = form; body = body } ∷ more) ≡ o) → IsShape (s ++ more) o
begun at code body s more o starts_it is gives =
    let Holds : List Item → Type 0 = λ items. IsShape (items ++ more) o in
    subst Holds (sym is.1) (record { first = record { at = at; code = code; form = is.0; body = body }; more = more; begins = refl; starts = starts_it; gives = gives is.0 })

-- what a turn's records hold besides
pub record NotThere (items : List Item) : Type 0 where
  pub xy : held XY items ≡ None
  pub colrow : held COLROW items ≡ None
  pub string : held STRING items ≡ None

pub turn_not_there : (c d : Cursor) (items : List Item) → read (maybe turn) c ≡ Ok (items, d) → NotThere items
unfolding turn
turn_not_there c d items is =
    let never = not_held (maybe turn) in
    record {
      xy = never XY c d items is refl;
      colrow = never COLROW c d items is refl;
      string = never STRING c d items is refl;
    }

-- ---- elements, each behind its head, or behind what its rest is told

-- what the parts of an element of a layer, a type on it and points hold, the whole holds
pub area_is : (at start kind : ℕ) (body layer number xy : List ℕ) (s h l d x : List Item) (c e : Cursor) → is_in beside_kind kind ≡ false → IsOne at start body s → read head c ≡ Ok (h, e)
    → Only LAYER (Some layer) l → Only kind (Some number) d → Only XY (Some xy) x → HoldsArea at start kind (s ++ (h ++ (l ++ (d ++ x)))) layer number xy
unfolding head
area_is at start kind body layer number xy s h l d x c e apart is_s is_h is_l is_d is_x =
    let no_h = head_nothing c e h is_h in
    let flags = or_parts (eqb ELFLAGS kind) (is_in (PLEX ∷ LAYER ∷ XY ∷ []) kind) apart in
    let plex = or_parts (eqb PLEX kind) (is_in (LAYER ∷ XY ∷ []) kind) flags.1 in
    let beside = or_parts (eqb LAYER kind) (is_in (XY ∷ []) kind) plex.1 in
    let not_xy : eqb kind XY ≡ false = ne_eqb kind XY (λ same. eqb-false XY kind (or_parts (eqb XY kind) false beside.1).0 (sym same)) in
    let no_kind : held kind h ≡ None = not_held head kind c e h is_h (simp (flags.0, plex.0) refl) in
    let Holds : List Item → Type 0 = λ items. HoldsArea at start kind (items ++ (h ++ (l ++ (d ++ x)))) layer number xy in
    subst Holds (sym is_s.1) (record {
      first = record { at = at; code = start; form = is_s.0; body = body };
      more = h ++ (l ++ (d ++ x));
      begins = refl;
      stands = refl;
      starts = refl;
      on_layer = simp (held-append, no_h.layer, is_l.held_is) refl;
      of_kind = simp (held-append, no_kind, is_l.held_is, beside.0, is_d.held_is, eq-eqb kind kind refl) refl;
      points = simp (held-append, no_h.xy, is_l.held_is, is_d.held_is, not_xy, is_x.held_is) refl;
    })

-- such an element gives what its records behind the first say
area_gives : (at start kind : ℕ) (items : List Item) (layer number xy : List ℕ) (o : Option Element) → (here : HoldsArea at start kind items layer number xy) → is_in starts start ≡ true
    → element_of (here.first ∷ here.more) ≡ o → IsShape items o
area_gives at start kind items layer number xy o here starts_it gives = record {
  first = here.first;
  more = here.more;
  begins = here.begins;
  starts = ap (is_in starts) here.starts ∙ starts_it;
  gives = ap element_of here.begins ∙ gives;
}

pub boundary_is : (at offset : ℕ) (n m : ℤ) (points : List Point) (items : List Item) (layer number xy : List ℕ) → HoldsArea at BOUNDARY DATATYPE items layer number xy
    → offset ≡ at → n ≡ two_bytes layer → m ≡ two_bytes number → points ≡ points_in xy → IsShape items (Some (Boundary offset n m points))
boundary_is at offset n m points items layer number xy here is_offset is_n is_m are_points =
    area_gives at BOUNDARY DATATYPE items layer number xy _ here refl (simp (here.starts, here.stands, here.on_layer, here.of_kind, here.points, is_offset, is_n, is_m, are_points) refl)

pub points_are : (begin end : Option (List ℕ)) (xy : List ℕ) (b e x : List Item) → Only BGNEXTN begin b → Only ENDEXTN end e → Only XY (Some xy) x → HoldsPoints (b ++ (e ++ x)) xy
points_are begin end xy b e x is_b is_e is_x = simp (held-append, is_b.held_is, is_e.held_is, is_x.held_is) refl

pub line_is : (offset : ℕ) (n m p2 w4 : ℤ) (points : List Point) (layer datatype xy : List ℕ) (pathtype width : Option (List ℕ)) (p w x : List Item)
    → Only PATHTYPE pathtype p → Only WIDTH width w → held PATHTYPE x ≡ None → held WIDTH x ≡ None → HoldsPoints x xy
    → n ≡ two_bytes layer → m ≡ two_bytes datatype → p2 ≡ two_bytes (unwrap_or pathtype (0 ∷ 0 ∷ [])) → w4 ≡ four_bytes (unwrap_or width (0 ∷ 0 ∷ 0 ∷ 0 ∷ [])) → points ≡ points_in xy
    → GivesLine offset layer datatype (p ++ (w ++ x)) (Some (Path offset n m p2 w4 points))
line_is offset n m p2 w4 points layer datatype xy pathtype width p w x is_p is_w no_type no_width is_x is_n is_m is_p2 is_w4 are_points =
    simp (is_n, is_m, is_p2, is_w4, are_points, held-append, is_p.held_is, is_w.held_is, no_type, no_width, is_x, or_nothing) refl

pub path_is : (at offset : ℕ) (o : Option Element) (body layer datatype : List ℕ) (s h l d r : List Item) → IsOne at PATH body s → Nothing h → Only LAYER (Some layer) l → Only DATATYPE (Some datatype) d
    → offset ≡ at → GivesLine offset layer datatype r o → IsShape (s ++ (h ++ (l ++ (d ++ r)))) o
path_is at offset o body layer datatype s h l d r is_s no_h is_l is_d is_offset is =
    begun at PATH body s (h ++ (l ++ (d ++ r))) o refl is_s
    (λ form. simp (is, is_offset, held-append, no_h.layer, no_h.datatype, no_h.pathtype, no_h.width, no_h.xy, is_l.held_is, is_d.held_is) refl)

pub sref_is : (at offset : ℕ) (text : List ℕ) (place : Place) (point : Point) (body name xy : List ℕ) (s h n t x : List Item)
    → IsOne at SREF body s → Nothing h → Only SNAME (Some name) n → NotThere t → Only XY (Some xy) x
    → offset ≡ at → text ≡ trim name → place_in t ≡ place → point ≡ first_of (points_in xy)
    → IsShape (s ++ (h ++ (n ++ (t ++ x)))) (Some (Sref offset text place point))
sref_is at offset text place point body name xy s h n t x is_s no_h is_n no_t is_x is_offset is_text is_place is_point =
    begun at SREF body s (h ++ (n ++ (t ++ x))) _ refl is_s
    (λ form. simp (is_offset, is_text, sym is_place, is_point, held-append, no_h.sname, no_h.xy, no_h.strans, no_h.mag, no_h.angle, is_n.held_is, no_t.xy, is_x.held_is, or_nothing) refl)

pub array_is : (offset : ℕ) (text : List ℕ) (place : Place) (columns rows : ℤ) (points : List Point) (name counts xy : List ℕ) (t c x : List Item)
    → NotThere t → Only COLROW (Some counts) c → Only XY (Some xy) x
    → text ≡ trim name → place_in t ≡ place → columns ≡ two_bytes (take 2 counts) → rows ≡ two_bytes (drop 2 counts) → points ≡ points_in xy
    → GivesArray offset name (t ++ (c ++ x)) (Some (Aref offset text place columns rows points))
array_is offset text place columns rows points name counts xy t c x no_t is_c is_x is_text is_place are_columns are_rows are_points =
    simp (is_text, sym is_place, are_columns, are_rows, are_points, held-append, no_t.xy, no_t.colrow, is_c.held_is, is_x.held_is, or_nothing) refl

pub aref_is : (at offset : ℕ) (o : Option Element) (body name : List ℕ) (s h n r : List Item) → IsOne at AREF body s → Nothing h → Only SNAME (Some name) n → offset ≡ at → GivesArray offset name r o
    → IsShape (s ++ (h ++ (n ++ r))) o
aref_is at offset o body name s h n r is_s no_h is_n is_offset is =
    begun at AREF body s (h ++ (n ++ r)) o refl is_s
    (λ form. simp (is, is_offset, held-append, no_h.sname, no_h.xy, no_h.colrow, no_h.strans, no_h.mag, no_h.angle, is_n.held_is) refl)

pub text_is : (offset : ℕ) (n m : ℤ) (point : Point) (text layer texttype xy string : List ℕ) (t x g : List Item) → NotThere t → Only XY (Some xy) x → Only STRING (Some string) g
    → n ≡ two_bytes layer → m ≡ two_bytes texttype → point ≡ first_of (points_in xy) → text ≡ trim string
    → GivesText offset layer texttype (t ++ (x ++ g)) (Some (Label offset n m point text))
text_is offset n m point text layer texttype xy string t x g no_t is_x is_g is_n is_m is_point is_text =
    simp (is_n, is_m, is_point, is_text, held-append, no_t.xy, no_t.string, is_x.held_is, is_g.held_is) refl

-- records before it hold nothing of it
pub text_behind : (offset : ℕ) (o : Option Element) (layer texttype : List ℕ) (items more : List Item) → held XY items ≡ None → held STRING items ≡ None
    → GivesText offset layer texttype more o → GivesText offset layer texttype (items ++ more) o
text_behind offset o layer texttype items more no_xy no_string is = simp (is, held-append, no_xy, no_string) refl

pub label_is : (at offset : ℕ) (o : Option Element) (body layer texttype : List ℕ) (s h l y r : List Item) → IsOne at TEXT body s → Nothing h → Only LAYER (Some layer) l → Only TEXTTYPE (Some texttype) y
    → offset ≡ at → GivesText offset layer texttype r o → IsShape (s ++ (h ++ (l ++ (y ++ r)))) o
label_is at offset o body layer texttype s h l y r is_s no_h is_l is_y is_offset is =
    begun at TEXT body s (h ++ (l ++ (y ++ r))) o refl is_s
    (λ form. simp (is, is_offset, held-append, no_h.layer, no_h.texttype, no_h.xy, no_h.string, is_l.held_is, is_y.held_is) refl)

pub node_is : (at : ℕ) (items : List Item) (layer number xy : List ℕ) → HoldsArea at NODE NODETYPE items layer number xy → IsShape items None
node_is at items layer number xy here = area_gives at NODE NODETYPE items layer number xy None here refl (rw here.starts refl)

pub box_is : (at offset : ℕ) (n m : ℤ) (items : List Item) (layer number xy : List ℕ) → HoldsArea at BOX BOXTYPE items layer number xy
    → offset ≡ at → n ≡ two_bytes layer → m ≡ two_bytes number → IsShape items (Some (BoxShape offset n m))
box_is at offset n m items layer number xy here is_offset is_n is_m =
    area_gives at BOX BOXTYPE items layer number xy _ here refl (simp (here.starts, here.stands, here.on_layer, here.of_kind, is_offset, is_n, is_m) refl)

pub turn_is : (flags : ℕ) (mag angle : List ℕ) (body : List ℕ) (by to : Option (List ℕ)) (s m a : List Item) → Only STRANS (Some body) s → Only MAG by m → Only ANGLE to a
    → flags ≡ from_be_bytes w16 body → mag ≡ unwrap_or by real_one → angle ≡ unwrap_or to (replicate 8 0) → place_in (s ++ (m ++ a)) ≡ record { flags = flags; mag = mag; angle = angle }
turn_is flags mag angle body by to s m a is_s is_m is_a is_flags is_mag is_angle =
    simp (is_flags, is_mag, is_angle, held-append, is_s.held_is, is_m.held_is, is_a.held_is, or_nothing) refl
