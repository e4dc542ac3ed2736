-- One reply: any two replies that a promise allows are equal (rule 11.1).
use Prim.Native.Nat.{ℕ}
use mathlib.Core.Path.{◌≡◌, refl, ap, ◌∙⁻¹◌}
use mathlib.Core.Bool.{Bool, cond}
use mathlib.Core.List.{List}
use lib.Dec.{eqb}
use Rattle.std.specs.Prelude.{Result, Ok, Err}
use Rattle.basis.specs.Reply.{Told, Reply, ok, refused}
use Rattle.basis.proofs.Reply.{apart}
use Rattle.tlv.specs.Stop.{stop_number, StopNumberIs}
use Rattle.tlv.specs.Tag.{Tag, CrateTagSizeIs, CrateThirdByteIs, TakeTagIs, as_reply as tag_reply}
use Rattle.tlv.specs.Len.{Len, TakeLenIs, as_reply as len_reply}
use Rattle.tlv.specs.Object.{Item, Stop as Ends, TakeDataObjectIs, as_reply as object_reply}
use Rattle.tlv.specs.Lookup.{Found as Value, Halt as Halted, GetDataObjectIs, ValueIs, as_reply as lookup_reply}
use Rattle.tlv.specs.declared.Reading.{Reading}
use Rattle.tlv.specs.declared.stop.Stop.{Stop}
use Rattle.tlv.specs.declared.stop.Stop.TheVariants.{End, Unreadable}
use Rattle.tlv.specs.declared.stop.StopAt.{StopAt}
use Rattle.tlv.specs.declared.tag.Tag as tag
use Rattle.tlv.specs.declared.len.Len as len
use Rattle.tlv.specs.declared.object.DataObject.{DataObject}
use Rattle.tlv.specs.declared.lookup.Found.{Found}
use Rattle.tlv.specs.declared.lookup.Halt.{Halt}

-- the stop with a number
abbrev pub stop_back : ℕ → Stop
stop_back k = cond (eqb k 11) End Unreadable

pub stop_there_and_back : (s : Stop) → stop_back (stop_number s) ≡ s
stop_there_and_back End = refl
stop_there_and_back Unreadable = refl

-- the way back from a reply to the answer, and that it leads back to the same answer
abbrev tag_back : Reply Tag → Result tag.Tag Stop
tag_back (ok t) = Ok (record { number = t.number; size = t.size })
tag_back (refused k) = Err (stop_back k)

tag_there_and_back : (x : Result tag.Tag Stop) → tag_back (tag_reply x) ≡ x
tag_there_and_back (Ok t) = refl
tag_there_and_back (Err s) = ap (λ (s : Stop). Err s) (stop_there_and_back s)

abbrev len_back : Reply Len → Result len.Len Stop
len_back (ok l) = Ok (record { number = l.number; size = l.size })
len_back (refused k) = Err (stop_back k)

len_there_and_back : (x : Result len.Len Stop) → len_back (len_reply x) ≡ x
len_there_and_back (Ok l) = refl
len_there_and_back (Err s) = ap (λ (s : Stop). Err s) (stop_there_and_back s)

abbrev object_back : Told Ends Item → Result DataObject StopAt
object_back (ok i) = Ok (record { place = i.place; tag = i.tag; at = i.at; len = i.len })
object_back (refused e) = Err (record { stop = stop_back e.number; place = e.place })

object_there_and_back : (x : Result DataObject StopAt) → object_back (object_reply x) ≡ x
object_there_and_back (Ok o) = refl
object_there_and_back (Err e) = ap (λ (s : Stop). Err (record { stop = s; place = e.place })) (stop_there_and_back e.stop)

abbrev lookup_back : Told Halted Value → Result Found Halt
lookup_back (ok p) = Ok (record { at = p.at; len = p.len; matched = p.matched })
lookup_back (refused h) = Err (record { stop = stop_back h.number; place = h.place; matched = h.matched })

lookup_there_and_back : (x : Result Found Halt) → lookup_back (lookup_reply x) ≡ x
lookup_there_and_back (Ok p) = refl
lookup_there_and_back (Err h) =
    ap (λ (s : Stop). Err (record { stop = s; place = h.place; matched = h.matched })) (stop_there_and_back h.stop)

pub number : (s : Stop) (x y : ℕ) → StopNumberIs s x → StopNumberIs s y → x ≡ y
number s x y p q = p ∙⁻¹ q

pub crate_tag_size : (b x y : ℕ) → CrateTagSizeIs b x → CrateTagSizeIs b y → x ≡ y
crate_tag_size b x y p q = p ∙⁻¹ q

pub crate_third_byte : (b : ℕ) (x y : Bool) → CrateThirdByteIs b x → CrateThirdByteIs b y → x ≡ y
crate_third_byte b x y p q = p ∙⁻¹ q

module _ (r : Reading) (s : List ℕ) where
  pub take_tag : (x y : Result tag.Tag Stop) → TakeTagIs r s x → TakeTagIs r s y → x ≡ y
  take_tag x y p q = apart tag_reply tag_back tag_there_and_back x y (p ∙⁻¹ q)

  pub take_len : (x y : Result len.Len Stop) → TakeLenIs r s x → TakeLenIs r s y → x ≡ y
  take_len x y p q = apart len_reply len_back len_there_and_back x y (p ∙⁻¹ q)

  pub take_data_object : (at : ℕ) (x y : Result DataObject StopAt) → TakeDataObjectIs r s at x → TakeDataObjectIs r s at y → x ≡ y
  take_data_object at x y p q = apart object_reply object_back object_there_and_back x y (p ∙⁻¹ q)

  pub get_data_object : (path : List ℕ) (x y : Result Found Halt) → GetDataObjectIs r s path x → GetDataObjectIs r s path y → x ≡ y
  get_data_object path x y p q = apart lookup_reply lookup_back lookup_there_and_back x y (p ∙⁻¹ q)

  pub value : (path x y : List ℕ) → ValueIs r s path x → ValueIs r s path y → x ≡ y
  value path x y p q = p ∙⁻¹ q
