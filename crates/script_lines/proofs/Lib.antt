-- Laws of bytes put one behind the other, of fields, and of how long lines are.
pub mod PutLaws
pub mod FieldLaws
pub mod LengthLaws
