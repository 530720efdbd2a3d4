-- What each kind of letters says.
pub mod KindLaws
