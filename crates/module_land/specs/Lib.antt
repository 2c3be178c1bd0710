pub mod Land
