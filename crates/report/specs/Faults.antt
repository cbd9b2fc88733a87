-- What a fault is told by: number and places as its layer gives them, and that layer.
use Rattle.base.specs.declared.refusal.Refusal.{Refusal}
use Rattle.aspif.specs.Faults.{refusal_of as text_refusal}
use Rattle.book.specs.Faults.{refusal_of as book_refusal}
use Rattle.sheet.specs.Faults.{refusal_of as sheet_refusal}
use Rattle.report.specs.declared.fault.Fault.{Fault}
use Rattle.report.specs.declared.fault.Fault.TheVariants.{Text, Book, Sheet}
use Rattle.report.specs.declared.fault.Layer.{Layer}
use Rattle.report.specs.declared.fault.Layer.TheVariants as layer

abbrev pub refusal_of : Fault → Refusal
refusal_of (Text e) = text_refusal e
refusal_of (Book e) = book_refusal e
refusal_of (Sheet e) = sheet_refusal e

abbrev pub layer_of : Fault → Layer
layer_of (Text e) = layer.Text
layer_of (Book e) = layer.Book
layer_of (Sheet e) = layer.Sheet
