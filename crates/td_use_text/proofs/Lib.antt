mod Beginning
mod Carrying
mod Meaning
