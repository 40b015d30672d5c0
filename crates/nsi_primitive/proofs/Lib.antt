pub mod IdTexts
pub mod SixteenBytes
